-- Where the search for a step down goes on in each node's row: it never goes back while the levels stand.
use Rattle.std.specs.Prelude.{◌≡◌, ℕ, ◌+◌, ◌-◌, ◌<◌, ◌≤◌, List, length, Some, None, Option, slice_index, slice_set}
use Rattle.network.specs.Sum.{upto}
use Rattle.index.specs.Graph.{net}
use Rattle.index.specs.Rows.{start, step_at}
use Rattle.index.specs.declared.graph.Graph.{Graph}
use Rattle.index.specs.declared.step.Step.{Step}
use Rattle.reach.specs.Levels.{Near, LeadsDown}

-- the place in the index where node v's cursor stands
abbrev pub place : List ℕ → ℕ → ℕ
place cursor v = slice_index cursor v

-- where the row of node v ends
abbrev pub row_end : Graph → ℕ → ℕ
row_end graph v = start graph.starts.now (v + 1)

-- each node's cursor stands in its row, or at its end
pub record Cursors (graph : Graph) (cursor : List ℕ) : Type 0 where
  pub long : length cursor ≡ graph.nodes
  pub low : (v : ℕ) → v < graph.nodes → start graph.starts.now v ≤ place cursor v
  pub high : (v : ℕ) → v < graph.nodes → place cursor v ≤ row_end graph v

-- how many places all cursors have before them
abbrev pub ahead : Graph → List ℕ → ℕ
ahead graph cursor = upto graph.nodes (λ v. row_end graph v - place cursor v)

-- From place k on, a step of node v's row leads down.
pub record DownFrom (graph : Graph) (f : ℕ → ℕ) (distance : List ℕ) (v k : ℕ) : Type 0 where
  pub place : ℕ
  pub from : k ≤ place
  pub below : place < row_end graph v
  pub leads : LeadsDown (net graph) f distance v (step_at graph.steps.now place)

-- no cursor has passed the last step down of a reached node that lacks nothing
abbrev pub Fresh : Graph → (ℕ → ℕ) → (ℕ → ℕ) → List ℕ → List ℕ → Type 0
Fresh graph f lack distance cursor =
    (v : ℕ) → v < graph.nodes → Near (net graph) distance v → lack v ≡ 0 → DownFrom graph f distance v (place cursor v)

-- The first place from k on, in node v's row, where a step leads down, or the end of the row.
pub record Sought (graph : Graph) (f : ℕ → ℕ) (distance : List ℕ) (v k r : ℕ) : Type 0 where
  pub low : k ≤ r
  pub high : r ≤ row_end graph v
  pub found : r < row_end graph v → LeadsDown (net graph) f distance v (step_at graph.steps.now r)
  pub passed : (j : ℕ) → j < r → k ≤ j → LeadsDown (net graph) f distance v (step_at graph.steps.now j) → ⊥

-- Step s stands at place p of node v's row.
pub record StandsAt (graph : Graph) (v p : ℕ) (s : Step) : Type 0 where
  pub below : p < row_end graph v
  pub here : s ≡ step_at graph.steps.now p

-- the step that stands at place p, or none where the row ends there
abbrev pub Stands : Graph → ℕ → ℕ → Option Step → Type 0
Stands graph v p None = row_end graph v ≤ p
Stands graph v p (Some s) = StandsAt graph v p s

-- Node v's cursor went on to the first step that leads down, which is the answer.
pub record Advanced (graph : Graph) (f : ℕ → ℕ) (distance : List ℕ) (v : ℕ) (cursor cursor' : List ℕ) (answer : Option Step) : Type 0 where
  pub to : ℕ
  pub sought : Sought graph f distance v (place cursor v) to
  pub moved : cursor' ≡ slice_set cursor v to
  pub stands : Stands graph v to answer
