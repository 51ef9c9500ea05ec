-- Walks downhill over steps with room.
use Rattle.std.specs.Prelude.{◌≡◌, ℕ, ◌+◌, ◌-◌, ◌<◌, List, length, Some, None, Option, slice_set}
use Rattle.std.specs.List.{AllByRecursion}
use Rattle.network.specs.Net.{Net, size}
use Rattle.flows.specs.Steps as flows
use Rattle.flows.specs.Trails.{Joined, Downhill}
use Rattle.index.specs.Graph.{net}
use Rattle.index.specs.Rows.{step_at}
use Rattle.index.specs.Steps.{origin}
use Rattle.index.specs.declared.graph.Graph.{Graph}
use Rattle.index.specs.declared.step.Step.{Step}
use Rattle.reach.specs.Room.{step_of}
use Rattle.reach.specs.Levels.{level}
use Rattle.augment.specs.Cursors.{place, row_end, Cursors, Fresh}

-- the first steps of a buffer, newest first, as the theory of flows has them
abbrev pub trodden : List Step → ℕ → List flows.Step
trodden cells count = flows.walked (λ k. step_of (step_at cells k)) count

-- the cursor of the node that a step leaves is not at the end of its row
abbrev pub Held : Graph → List ℕ → flows.Step → Type 0
Held graph cursor s = place cursor (flows.origin (net graph) s) < row_end graph (flows.origin (net graph) s)

-- A walk from a to b: each step over a line of the network, with room, one level down, and with the cursor of its node before it.
pub record Walk (graph : Graph) (f : ℕ → ℕ) (distance cursor : List ℕ) (a b : ℕ) (cells : List Step) (count : ℕ) : Type 0 where
  pub places : length cells ≡ graph.nodes
  pub node : b < graph.nodes
  pub joined : Joined (net graph) a b (trodden cells count)
  pub inside : AllByRecursion (λ s. flows.place s < size (net graph)) (trodden cells count)
  pub room : AllByRecursion (flows.HasRoom (net graph) f 1) (trodden cells count)
  pub downhill : Downhill (net graph) (level distance) (trodden cells count)
  pub held : AllByRecursion (Held graph cursor) (trodden cells count)
  pub fall : count + level distance b ≡ level distance a

-- The walk before its last step, and what is known of the node that the step left.
pub record Behind (graph : Graph) (f : ℕ → ℕ) (distance cursor : List ℕ) (a b : ℕ) (cells : List Step) (count : ℕ) : Type 0 where
  pub inside : (step_at cells (count - 1)).line < size (net graph)
  pub node : origin (net graph) (step_at cells (count - 1)) < graph.nodes
  pub held : place cursor (origin (net graph) (step_at cells (count - 1))) < row_end graph (origin (net graph) (step_at cells (count - 1)))
  pub higher : level distance (origin (net graph) (step_at cells (count - 1))) ≡ level distance b + 1
  pub walk : Walk graph f distance cursor a (origin (net graph) (step_at cells (count - 1))) cells (count - 1)

-- The last step, if there is one, can be taken back: its line and its node are there, and the node's cursor can go on.
pub record Retraceable (g : Net) (cursor : List ℕ) (s : Step) : Type 0 where
  pub inside : s.line < size g
  pub node : origin g s < length cursor
  pub room : place cursor (origin g s) < 65535

-- The last of so many steps was taken back: v is the node that it left, and v's cursor went on past it.
pub record TakenBack (cursor : List ℕ) (left count : ℕ) (cursor' : List ℕ) (v : ℕ) : Type 0 where
  pub some : 0 < count
  pub node : v ≡ left
  pub on : cursor' ≡ slice_set cursor v (place cursor v + 1)

-- There was no step to take back.
pub record Nothing (cursor : List ℕ) (count : ℕ) (cursor' : List ℕ) : Type 0 where
  pub none : count ≡ 0
  pub same : cursor' ≡ cursor

abbrev pub Retraced : List ℕ → ℕ → ℕ → List ℕ → Option ℕ → Type 0
Retraced cursor left count cursor' None = Nothing cursor count cursor'
Retraced cursor left count cursor' (Some v) = TakenBack cursor left count cursor' v

-- A walk under way from a: where the cursors stand, and that none passed a step down unless one had before.
pub record Descending (graph : Graph) (f lack : ℕ → ℕ) (distance cursor : List ℕ) (a : ℕ) (cursor' : List ℕ) (b : ℕ) (cells : List Step) (count : ℕ) : Type 0 where
  pub cursors : Cursors graph cursor'
  pub walk : Walk graph f distance cursor' a b cells count
  pub fresh : Fresh graph f lack distance cursor → Fresh graph f lack distance cursor'

-- The walk arrived at a lacking node.
pub record Arrived (graph : Graph) (f lack : ℕ → ℕ) (distance cursor : List ℕ) (a b : ℕ) (cells : List Step) (count : ℕ) : Type 0 where
  pub lacking : 0 < lack b
  pub walk : Walk graph f distance cursor a b cells count

-- Where the walk ended: at a lacking node, or nowhere, and then some cursor had passed a step down.
abbrev pub Ended : Graph → (ℕ → ℕ) → (ℕ → ℕ) → List ℕ → List ℕ → ℕ → List ℕ → List Step → ℕ → Option ℕ → Type 0
Ended graph f lack distance cursor a cursor' cells count None = Fresh graph f lack distance cursor → ⊥
Ended graph f lack distance cursor a cursor' cells count (Some b) = Arrived graph f lack distance cursor' a b cells count
