-- What the search keeps true while it goes on.
use Rattle.std.specs.Prelude.{◌≡◌, ℕ, ◌<◌, ◌≤◌, List, length, slice_index, slice_index_or}
use Rattle.network.specs.Net.{Net}
use Rattle.network.specs.Sum.{count_upto}
use Rattle.network.specs.Records.{net_of}
use Rattle.network.specs.declared.line_record.LineRecord.{LineRecord}
use Rattle.index.specs.Graph.{net, row_of}
use Rattle.index.specs.Rows.{step_at}
use Rattle.index.specs.Steps.{target}
use Rattle.index.specs.declared.graph.Graph.{Graph}
use Rattle.index.specs.declared.step.Step.{Step}
use Rattle.reach.specs.Room.{room_of, reversed}
use Rattle.reach.specs.Levels.{level, Near, near, Down, Finished}

-- the node stands in the queue
pub record Queued (cells : List ℕ) (count v : ℕ) : Type 0 where
  pub place : ℕ
  pub below : place < count
  pub here : slice_index_or cells place 0 ≡ v

-- The queue holds the reached nodes, as many as there are; from each that is not at level 0 a step leads down.
pub record Front (g : Net) (f : ℕ → ℕ) (cells : List ℕ) (count : ℕ) (distance : List ℕ) : Type 0 where
  pub places : length cells ≡ g.nodes
  pub long : length distance ≡ g.nodes
  pub counted : count ≡ count_upto g.nodes (near g distance)
  pub nodes : (k : ℕ) → k < count → slice_index cells k < g.nodes
  pub reached : (k : ℕ) → k < count → Near g distance (slice_index cells k)
  pub queued : (v : ℕ) → v < g.nodes → Near g distance v → Queued cells count v
  pub low : (v : ℕ) → v < g.nodes → Near g distance v → level distance v < count
  pub down : (v : ℕ) → v < g.nodes → Near g distance v → 0 < level distance v → Down g f distance v

-- What newly reached nodes leave as it was: the nodes queued before, their levels, and which nodes are at level 0.
pub record Grown (g : Net) (cells : List ℕ) (count : ℕ) (distance cells' : List ℕ) (count' : ℕ) (distance' : List ℕ) : Type 0 where
  pub longer : count ≤ count'
  pub same : (k : ℕ) → k < count → slice_index cells' k ≡ slice_index cells k
  pub levels : (v : ℕ) → v < g.nodes → Near g distance v → level distance' v ≡ level distance v
  pub zeros : (v : ℕ) → v < g.nodes → level distance' v ≡ 0 → level distance v ≡ 0

-- the step comes back from a reached node, if there is room to come
abbrev pub Tried : Net → (ℕ → ℕ) → List ℕ → Step → Type 0
Tried g f distance s = 0 < room_of g f (reversed s) → Near g distance (target g s)

-- the same of the first k steps of node v's row
abbrev pub RowTried : Graph → (ℕ → ℕ) → List ℕ → ℕ → ℕ → Type 0
RowTried graph f distance v k = (j : ℕ) → j < k → Tried (net graph) f distance (step_at (row_of graph v) j)

-- While the row of node v is gone through, k steps so far: what the queue and the levels are, and were when it began.
pub record Visiting (graph : Graph) (f : ℕ → ℕ) (v : ℕ) (cells : List ℕ) (count : ℕ) (distance : List ℕ) (k : ℕ) (cells' : List ℕ) (count' : ℕ) (distance' : List ℕ) : Type 0 where
  pub front : Front (net graph) f cells' count' distance'
  pub grown : Grown (net graph) cells count distance cells' count' distance'
  pub tried : RowTried graph f distance' v k

-- The nodes below k that lack something are reached, all at level 0, and no other node is.
pub record Seeded (n : ℕ) (lack : ℕ → ℕ) (k : ℕ) (cells : List ℕ) (count : ℕ) (distance : List ℕ) : Type 0 where
  pub front : (lines : List LineRecord) (f : ℕ → ℕ) → Front (net_of n lines) f cells count distance
  pub lacking : (v : ℕ) → v < k → 0 < lack v → level distance v ≡ 0
  pub zeros : (v : ℕ) → v < n → level distance v ≡ 0 → 0 < lack v
  pub later : (v : ℕ) → v < n → k ≤ v → level distance v ≡ n

-- While the reached nodes are visited in their order: those at the places below `done` are finished.
pub record Spreading (g : Net) (f : ℕ → ℕ) (cells : List ℕ) (count : ℕ) (distance : List ℕ) (done : ℕ) (cells' : List ℕ) (count' : ℕ) (distance' : List ℕ) : Type 0 where
  pub front : Front g f cells' count' distance'
  pub grown : Grown g cells count distance cells' count' distance'
  pub finished : (k : ℕ) → k < done → Finished g f distance' (slice_index cells' k)
  pub inside : done ≤ count'
