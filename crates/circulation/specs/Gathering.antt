-- The flow that a circulation starts from: every line at its least, and what that leaves each node to spare or lacking.
use Rattle.std.specs.Prelude.{◌≡◌, ℕ, ◌+◌, ◌<◌, List}
use Rattle.network.specs.Net.{Net, least}
use Rattle.network.specs.Flow.{at, into, from}
use Rattle.circulation.specs.Summed.{summed}

-- What enters and what leaves each node over the first k lines, each at its least.
pub record Gathered (g : Net) (k : ℕ) (entered left : List ℕ) : Type 0 where
  pub heads : (v : ℕ) → v < g.nodes → at entered v ≡ summed g least (into v) k
  pub tails : (v : ℕ) → v < g.nodes → at left v ≡ summed g least (from v) k

-- the difference between two amounts at each node is as it was
abbrev pub SameDifference : ℕ → List ℕ → List ℕ → List ℕ → List ℕ → Type 0
SameDifference n a b a' b' = (v : ℕ) → v < n → at a' v + at b v ≡ at b' v + at a v
