-- Flows that are not yet lawful: amounts within the bounds, and what each node has to spare or lacks.
use Rattle.std.specs.Prelude.{◌≡◌, ℕ, ◌+◌, ◌<◌, ◌≤◌, Bool, true, cond, List, length, ◌==◌, ◌≢◌}
use Rattle.network.specs.Net.{Net, Line, size, line, least, most}
use Rattle.network.specs.Flow.{Lawful, at, over, into, from, entering, leaving}

-- every line carries from its least to its most
pub record Within (g : Net) (f : ℕ → ℕ) : Type 0 where
  pub low : (i : ℕ) → i < size g → least (line g i) ≤ f i
  pub high : (i : ℕ) → i < size g → f i ≤ most (line g i)

-- at every node what enters, with what the node lacks, is what leaves, with what the node has to spare
abbrev pub Balanced : Net → (ℕ → ℕ) → (ℕ → ℕ) → (ℕ → ℕ) → Type 0
Balanced g f spare lack = (v : ℕ) → v < g.nodes → over g (into v) f + lack v ≡ over g (from v) f + spare v

-- A flow on its way to a lawful one: within the bounds, with what each node has to spare and lacks.
pub record Mending (g : Net) (f : List ℕ) (spare lack : ℕ → ℕ) : Type 0 where
  pub long : length f ≡ size g
  pub bounds : Within g (at f)
  pub balance : Balanced g (at f) spare lack

-- an amount that stands at one node
abbrev pub only : ℕ → ℕ → ℕ → ℕ
only a d v = cond (a == v) d 0

-- Amounts h are amounts f with d carried from node a to node b: no other node sees a difference between what enters and what
-- leaves.
abbrev pub Carried : Net → ℕ → ℕ → ℕ → (ℕ → ℕ) → (ℕ → ℕ) → Type 0
Carried g d a b f h =
    (v : ℕ) → over g (into v) h + over g (from v) f + only a d v ≡ over g (from v) h + over g (into v) f + only b d v

-- A line with amount x over which a set of nodes can neither give out more nor take in less.
pub record Shut (R : ℕ → Bool) (l : Line) (x : ℕ) : Type 0 where
  pub out : leaving R l ≡ true → most l ≤ x
  pub back : entering R l ≡ true → x ≤ least l

-- Every line is shut for the set (the set is closed under residual steps); or every line but the one at place l.
abbrev pub AllShut : Net → (ℕ → ℕ) → (ℕ → Bool) → Type 0
AllShut g f R = (i : ℕ) → i < size g → Shut R (line g i) (f i)

abbrev pub Closed : Net → (ℕ → ℕ) → (ℕ → Bool) → ℕ → Type 0
Closed g f R l = (i : ℕ) → i < size g → (i ≢ l) → Shut R (line g i) (f i)

-- No lawful flow carries more than x over the line at place l; none carries less.
abbrev pub AtMost : Net → ℕ → ℕ → Type 0
AtMost g l x = (f : List ℕ) → Lawful g f → at f l ≤ x

abbrev pub AtLeast : Net → ℕ → ℕ → Type 0
AtLeast g l x = (f : List ℕ) → Lawful g f → x ≤ at f l
