-- Flows of a network: what a lawful flow is, what proves that there is none, and which lines are fixed.
use Rattle.std.specs.Prelude.{◌≡◌, ℕ, ◌<◌, ◌≤◌, Bool, cond, not, ◌&&◌, List, length, ◌==◌, ◌≢◌, slice_index}
use Rattle.network.specs.Net.{Net, Line, size, line, tail, head, least, most}
use Rattle.network.specs.Sum.{upto}

-- the amount that a list of amounts has for the line at a place
abbrev pub at : List ℕ → ℕ → ℕ
at f i = slice_index f i

-- what f gives the lines that pass a test, summed
abbrev pub over : Net → (Line → Bool) → (ℕ → ℕ) → ℕ
over g test f = upto (size g) (λ i. cond (test (line g i)) (f i) 0)

-- the lines that enter a node, and those that leave it; a line from a node to itself does both
abbrev pub into : ℕ → Line → Bool
into v l = head l == v

abbrev pub from : ℕ → Line → Bool
from v l = tail l == v

-- what enters the node leaves it
abbrev pub Kept : Net → (ℕ → ℕ) → ℕ → Type 0
Kept g f v = over g (into v) f ≡ over g (from v) f

-- A lawful flow (a feasible circulation): a whole amount for each line, from its least to its most, so that at every node
-- the amounts that enter add up to those that leave.
pub record Lawful (g : Net) (f : List ℕ) : Type 0 where
  pub long : length f ≡ size g
  pub low : (i : ℕ) → i < size g → least (line g i) ≤ at f i
  pub high : (i : ℕ) → i < size g → at f i ≤ most (line g i)
  pub kept : (v : ℕ) → v < g.nodes → Kept g (at f) v

-- the lines into a set of nodes from outside, and those from it to outside
abbrev pub entering : (ℕ → Bool) → Line → Bool
entering R l = R (head l) && not (R (tail l))

abbrev pub leaving : (ℕ → Bool) → Line → Bool
leaving R l = R (tail l) && not (R (head l))

-- what a set of nodes must take in, and what it can give out at most
abbrev pub demand : Net → (ℕ → Bool) → ℕ
demand g R = over g (entering R) (λ i. least (line g i))

abbrev pub supply : Net → (ℕ → Bool) → ℕ
supply g R = over g (leaving R) (λ i. most (line g i))

-- A bottleneck (a violated cut): a set of nodes that must take in more than can leave it.
abbrev pub Bottleneck : Net → (ℕ → Bool) → Type 0
Bottleneck g R = supply g R < demand g R

-- Fixed at an amount: every lawful flow carries it over the line. Free from it: some lawful flow carries another.
abbrev pub Fixed : Net → ℕ → ℕ → Type 0
Fixed g l x = (f : List ℕ) → Lawful g f → at f l ≡ x

abbrev pub Free : Net → ℕ → ℕ → Type 0
Free g l x = (f : List ℕ) × (Lawful g f × (at f l ≢ x))
