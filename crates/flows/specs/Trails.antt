-- Trails: ways over steps with room that use no line twice, and sets of nodes that trails from one node reach.
use Rattle.std.specs.Prelude.{◌≡◌, ℕ, suc, ◌<◌, Bool, true, List, [], ◌∷◌, ◌≢◌}
use Rattle.std.specs.List.{AllByRecursion}
use Rattle.network.specs.Net.{Net, Line, size, line, tail, head}
use Rattle.flows.specs.Steps.{Step, place, origin, target, HasRoom}

-- no step goes over the line at place i
abbrev pub Avoids : ℕ → List Step → Type 0
Avoids i steps = AllByRecursion (λ s. place s ≢ i) steps

-- no line is used twice
abbrev pub Once : List Step → Type 0
Once [] = Unit {0}
Once (s ∷ steps) = Avoids (place s) steps × Once steps

-- the steps, newest first, lead from a to b
abbrev pub Joined : Net → ℕ → ℕ → List Step → Type 0
Joined g a b [] = a ≡ b
Joined g a b (s ∷ steps) = (target g s ≡ b) × Joined g a (origin g s) steps

-- A trail from a to b (the field's word: augmenting path): each step over a line of the network, with room for d, and no
-- line twice.
pub record Trail (g : Net) (d : ℕ) (f : ℕ → ℕ) (a b : ℕ) (steps : List Step) : Type 0 where
  pub joined : Joined g a b steps
  pub inside : AllByRecursion (λ s. place s < size g) steps
  pub room : AllByRecursion (HasRoom g f d) steps
  pub once : Once steps

-- both ends of a line are in the set
pub record Held (R : ℕ → Bool) (l : Line) : Type 0 where
  pub tail : R (tail l) ≡ true
  pub head : R (head l) ≡ true

-- no step leaves the set
abbrev pub Stays : Net → (ℕ → Bool) → List Step → Type 0
Stays g R steps = AllByRecursion (λ s. Held R (line g (place s))) steps

-- each step leads one level down
abbrev pub Downhill : Net → (ℕ → ℕ) → List Step → Type 0
Downhill g level steps = AllByRecursion (λ s. level (origin g s) ≡ suc (level (target g s))) steps

-- A trail from a reaches v, avoids the line at place l and stays in the set R.
pub record Reached (g : Net) (d : ℕ) (f : ℕ → ℕ) (l a : ℕ) (R : ℕ → Bool) (v : ℕ) : Type 0 where
  pub steps : List Step
  pub trail : Trail g d f a v steps
  pub avoids : Avoids l steps
  pub stays : Stays g R steps

-- every node of the set is so reached
abbrev pub Spread : Net → ℕ → (ℕ → ℕ) → ℕ → ℕ → (ℕ → Bool) → Type 0
Spread g d f l a R = (v : ℕ) → R v ≡ true → Reached g d f l a R v
