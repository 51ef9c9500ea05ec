-- Steps over lines (the field's word: residual arcs): where they lead, when there is room, and what they do to a flow.
use Rattle.std.specs.Prelude.{◌≡◌, ℕ, zero, suc, ◌+◌, ◌-◌, ◌<◌, ◌≤◌, Bool, true, false, cond, List, [], ◌∷◌, length, ◌==◌, slice_set}
use Rattle.network.specs.Net.{Net, size, line, tail, head, least, most}
use Rattle.network.specs.Flow.{at}

-- A step: the place of a line, and 0 to go along it or any other number to go against it.
abbrev pub Step : Type 0
Step = ℕ × ℕ

abbrev pub place : Step → ℕ
place s = s.0

abbrev pub along : Step → Bool
along s = s.1 == 0

-- the node where a step starts, and the node where it ends
abbrev pub origin : Net → Step → ℕ
origin g s = cond (along s) (tail (line g (place s))) (head (line g (place s)))

abbrev pub target : Net → Step → ℕ
target g s = cond (along s) (head (line g (place s))) (tail (line g (place s)))

-- There is room for d: the line can carry d more if the step goes along it, and d less if against it.
pub record HasRoom (g : Net) (f : ℕ → ℕ) (d : ℕ) (s : Step) : Type 0 where
  pub more : along s ≡ true → f (place s) + d ≤ most (line g (place s))
  pub less : along s ≡ false → least (line g (place s)) + d ≤ f (place s)

-- A step that can be put into a list of amounts h: its line has a place there, and room.
pub record Ready (g : Net) (d : ℕ) (h : List ℕ) (s : Step) : Type 0 where
  pub listed : place s < size g
  pub inside : place s < length h
  pub room : HasRoom g (at h) d s

-- the amount x of a line after a step that moves d
abbrev pub changed : Step → ℕ → ℕ → ℕ
changed s d x = cond (along s) (x + d) (x - d)

-- a flow after one step that moves d, and after many, of which the newest is first
abbrev pub moved : Step → ℕ → (ℕ → ℕ) → ℕ → ℕ
moved s d f i = cond (i == place s) (changed s d (f i)) (f i)

abbrev pub shifted : List Step → ℕ → (ℕ → ℕ) → ℕ → ℕ
shifted [] d f = f
shifted (s ∷ steps) d f = moved s d (shifted steps d f)

-- the same for a flow that is a list of amounts
abbrev pub put : Step → ℕ → List ℕ → List ℕ
put s d f = slice_set f (place s) (changed s d (at f (place s)))

abbrev pub pushed : List Step → ℕ → List ℕ → List ℕ
pushed [] d f = f
pushed (s ∷ steps) d f = put s d (pushed steps d f)

-- the first n steps that are read from a buffer, newest first
abbrev pub walked : (ℕ → Step) → ℕ → List Step
walked read zero = []
walked read (suc n) = read n ∷ walked read n
