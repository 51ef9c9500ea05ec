-- What a circulation answers: a lawful flow, or a bottleneck with its demand and supply.
use Rattle.std.specs.Prelude.{◌≡◌, ℕ, ◌<◌, ◌≤◌, Bool, true, false, ◌⊎◌, List, length, Some, None, Option, Ok, Err, Result, ◌==◌, slice_index}
use Rattle.network.specs.Net.{Net}
use Rattle.network.specs.Flow as flows
use Rattle.reach.specs.Levels.{level}
use Rattle.circulation.specs.declared.bottleneck.Bottleneck.{Bottleneck}

-- the nodes whose byte is 1
abbrev pub members : List ℕ → ℕ → Bool
members bytes v = slice_index bytes v == 1

-- The bytes, each 0 or 1, show a bottleneck with this demand and this supply.
pub record Shows (g : Net) (bytes : List ℕ) (demanded supplied : ℕ) : Type 0 where
  pub binary : (v : ℕ) → v < length bytes → (slice_index bytes v ≡ 0) ⊎ (slice_index bytes v ≡ 1)
  pub bottleneck : flows.Bottleneck g (members bytes)
  pub demand : demanded ≡ flows.demand g (members bytes)
  pub supply : supplied ≡ flows.supply g (members bytes)

-- the answer is right: the flow is lawful, or the bytes show a bottleneck, so that there is no lawful flow
abbrev pub Right : Net → List ℕ → List ℕ → Result (Unit {0}) Bottleneck → Type 0
Right g flow bytes (Ok _) = flows.Lawful g flow
Right g flow bytes (Err b) = Shows g bytes b.demand b.supply

-- Some node has something to spare.
pub record Unsettled (n : ℕ) (spare : List ℕ) : Type 0 where
  pub node : ℕ
  pub inside : node < n
  pub much : 0 < flows.at spare node

-- whether any node has
abbrev pub Spares : ℕ → List ℕ → Bool → Type 0
Spares n spare true = Unsettled n spare
Spares n spare false = (v : ℕ) → v < n → flows.at spare v ≡ 0

-- Node v has something to spare, and is reached.
pub record StartsAt (n : ℕ) (spare distance : List ℕ) (v : ℕ) : Type 0 where
  pub inside : v < n
  pub much : 0 < flows.at spare v
  pub near : level distance v < n

-- such a node, or none where no node with something to spare is reached
abbrev pub Source : ℕ → List ℕ → List ℕ → Option ℕ → Type 0
Source n spare distance None = (v : ℕ) → v < n → 0 < flows.at spare v → n ≤ level distance v
Source n spare distance (Some v) = StartsAt n spare distance v
