-- The theorems on flows, as statements.
use Rattle.std.specs.Prelude.{◌≡◌, ℕ, ◌+◌, ◌<◌, Bool, true, false, List}
use Rattle.network.specs.Sum.{upto}
use Rattle.network.specs.Net.{Net, Limits, Same, size, line, tail, head}
use Rattle.network.specs.Flow.{at, over, entering, leaving, demand, supply, Bottleneck, Lawful, Fixed, Free}
use Rattle.flows.specs.Bounds.{AllShut, AtLeast, AtMost, Balanced, Closed, Mending, only}
use Rattle.flows.specs.Steps.{Step, HasRoom, place, origin, target, pushed}
use Rattle.flows.specs.Trails.{Avoids, Trail}

-- what enters any set of nodes in a lawful flow leaves it
abbrev pub EnteringEqualsLeaving : Type 0
EnteringEqualsLeaving =
    (g : Net) → Limits g → (f : List ℕ) → Lawful g f → (R : ℕ → Bool) → over g (entering R) (at f) ≡ over g (leaving R) (at f)

-- where there is a bottleneck there is no lawful flow
abbrev pub BottleneckExcludesFlows : Type 0
BottleneckExcludesFlows = (g : Net) → Limits g → (R : ℕ → Bool) → Bottleneck g R → (f : List ℕ) → Lawful g f → ⊥

-- a set of nodes that no step with room leaves, in which nothing is lacking and something is to spare, is a bottleneck
abbrev pub StuckSearchLeavesBottleneck : Type 0
StuckSearchLeavesBottleneck =
    (g : Net) → Limits g → (f spare lack : ℕ → ℕ) → Balanced g f spare lack → (R : ℕ → Bool) → AllShut g f R
    → ((v : ℕ) → v < g.nodes → R v ≡ true → lack v ≡ 0) → (v : ℕ) → v < g.nodes → R v ≡ true → 0 < spare v → Bottleneck g R

-- over a line into a set that is closed but for it, no lawful flow carries more
abbrev pub ClosedSetFixesFromAbove : Type 0
ClosedSetFixesFromAbove =
    (g : Net) → Limits g → (f : List ℕ) → Lawful g f → (R : ℕ → Bool) (l : ℕ) → l < size g → Closed g (at f) R l
    → R (head (line g l)) ≡ true → R (tail (line g l)) ≡ false → AtMost g l (at f l)

-- over a line out of such a set, none carries less
abbrev pub ClosedSetFixesFromBelow : Type 0
ClosedSetFixesFromBelow =
    (g : Net) → Limits g → (f : List ℕ) → Lawful g f → (R : ℕ → Bool) (l : ℕ) → l < size g → Closed g (at f) R l
    → R (tail (line g l)) ≡ true → R (head (line g l)) ≡ false → AtLeast g l (at f l)

-- a line over which a step has room is free if a trail leads back from the step's end to its start without the line
abbrev pub WayRoundFrees : Type 0
WayRoundFrees =
    (g : Net) (f : List ℕ) → Lawful g f → (s : Step) → place s < size g → HasRoom g (at f) 1 s → (steps : List Step)
    → Trail g 1 (at f) (target g s) (origin g s) steps → Avoids (place s) steps → Free g (place s) (at f (place s))

-- A push of d along a trail from a to b: the bounds stay, d less is to spare at a and lacking at b, all else stands.
pub record Pushes (g : Net) (d : ℕ) (f : List ℕ) (a : ℕ) (steps : List Step) (spare spare' lack' : ℕ → ℕ) : Type 0 where
  pub mends : Mending g (pushed steps d f) spare' lack'
  pub falls : upto g.nodes spare' + d ≡ upto g.nodes spare

abbrev pub PushKeepsBoundsAndLowersExcess : Type 0
PushKeepsBoundsAndLowersExcess =
    (g : Net) (d : ℕ) (f : List ℕ) (a b : ℕ) (steps : List Step) (spare lack spare' lack' : ℕ → ℕ) → Mending g f spare lack
    → Trail g d (at f) a b steps → a < g.nodes → ((v : ℕ) → v < g.nodes → spare' v + only a d v ≡ spare v)
    → ((v : ℕ) → v < g.nodes → lack' v + only b d v ≡ lack v) → Pushes g d f a steps spare spare' lack'

-- What networks of the same meaning share.
pub record Shares (m n : Net) : Type 0 where
  pub flows : (f : List ℕ) → Lawful m f → Lawful n f
  pub demands : (R : ℕ → Bool) → demand m R ≡ demand n R
  pub supplies : (R : ℕ → Bool) → supply m R ≡ supply n R
  pub bottlenecks : (R : ℕ → Bool) → Bottleneck m R → Bottleneck n R
  pub fixed : (l x : ℕ) → Fixed m l x → Fixed n l x
  pub free : (l x : ℕ) → Free m l x → Free n l x

abbrev pub SameMeaningSameFlows : Type 0
SameMeaningSameFlows = (m n : Net) → Same m n → Shares m n
