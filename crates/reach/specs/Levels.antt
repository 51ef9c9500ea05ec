-- What a search backwards from the lacking nodes finds: a level for each node that it reaches, and a step down from it.
use Rattle.std.specs.Prelude.{◌≡◌, ℕ, ◌+◌, ◌<◌, Bool, List, nat_lt, slice_index}
use Rattle.network.specs.Net.{Net, size, line, tail, head, least, most}
use Rattle.index.specs.Rows.{Leaves}
use Rattle.index.specs.Steps.{target}
use Rattle.index.specs.declared.step.Step.{Step}
use Rattle.reach.specs.Room.{room_of}

-- the level of a node: how many steps it stands from a lacking node, or the number of nodes where it was not reached
abbrev pub level : List ℕ → ℕ → ℕ
level distance v = slice_index distance v

-- the node is reached, as a fact and as a test
abbrev pub Near : Net → List ℕ → ℕ → Type 0
Near g distance v = level distance v < g.nodes

abbrev pub near : Net → List ℕ → ℕ → Bool
near g distance v = nat_lt (level distance v) g.nodes

-- The step has room, and comes to a node one level below node v.
pub record LeadsDown (g : Net) (f : ℕ → ℕ) (distance : List ℕ) (v : ℕ) (s : Step) : Type 0 where
  pub room : 0 < room_of g f s
  pub lower : level distance (target g s) + 1 ≡ level distance v

-- Some step leaves node v and leads down.
pub record Down (g : Net) (f : ℕ → ℕ) (distance : List ℕ) (v : ℕ) : Type 0 where
  pub step : Step
  pub leaves : Leaves g v step
  pub leads : LeadsDown g f distance v step

-- Every step with room into node v comes from a reached node.
pub record Finished (g : Net) (f : ℕ → ℕ) (distance : List ℕ) (v : ℕ) : Type 0 where
  pub along : (i : ℕ) → i < size g → head (line g i) ≡ v → f i < most (line g i) → Near g distance (tail (line g i))
  pub against : (i : ℕ) → i < size g → tail (line g i) ≡ v → least (line g i) < f i → Near g distance (head (line g i))

-- What the search promises: every lacking node is reached, from every reached node that is not lacking a step with room leads
-- down, and no step with room comes to a reached node from one that is not.
pub record Levelled (g : Net) (f lack : ℕ → ℕ) (distance : List ℕ) : Type 0 where
  pub lacking : (v : ℕ) → v < g.nodes → 0 < lack v → Near g distance v
  pub down : (v : ℕ) → v < g.nodes → Near g distance v → lack v ≡ 0 → Down g f distance v
  pub finished : (v : ℕ) → v < g.nodes → Near g distance v → Finished g f distance v
