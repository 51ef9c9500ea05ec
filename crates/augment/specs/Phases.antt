-- A phase: pushes from the reached nodes, while the levels stand.
use Rattle.std.specs.Prelude.{◌≡◌, ℕ, ◌<◌, ◌≤◌, Bool, true, length}
use Rattle.network.specs.Flow.{at}
use Rattle.index.specs.declared.graph.Graph.{Graph}
use Rattle.augment.specs.Cursors.{Cursors, Fresh}
use Rattle.augment.specs.Pushes.{total}
use Rattle.augment.specs.Repairs.{SameMemory}
use Rattle.augment.specs.declared.descent.Descent.{Descent}
use Rattle.augment.specs.declared.repair.Repair.{Repair}

-- A descent over this network: a level and a cursor for each node, and a place of the walk, with each cursor in its row.
pub record Ready (graph : Graph) (descent : Descent) : Type 0 where
  pub levels : length descent.distance.now ≡ graph.nodes
  pub cursors : Cursors graph descent.cursor.now
  pub places : length descent.walk.cells.now ≡ graph.nodes

-- The descent goes on, with the levels that it had.
pub record StillReady (graph : Graph) (before after : Descent) : Type 0 where
  pub levels : after.distance.now ≡ before.distance.now
  pub ready : Ready graph after

-- An attempt to push from node a: where it succeeds less is to spare, at a and in all, and it succeeds unless some cursor had
-- passed a step down.
pub record Attempted (repair : Repair) (descent : Descent) (a : ℕ) (repair' : Repair) (success : Bool) : Type 0 where
  pub sure : Fresh repair.graph (at repair.flow.now) (at repair.lack.now) descent.distance.now descent.cursor.now → success ≡ true
  pub falls : success ≡ true → total repair.graph.nodes repair'.spare.now < total repair.graph.nodes repair.spare.now
  pub less : success ≡ true → at repair'.spare.now a < at repair.spare.now a
  pub most : total repair.graph.nodes repair'.spare.now ≤ total repair.graph.nodes repair.spare.now

-- While node a, or one node after another, is drained: the repair and the descent go on, and no more is to spare than was.
pub record Draining (repair : Repair) (descent : Descent) (repair' : Repair) (descent' : Descent) : Type 0 where
  pub memory : SameMemory repair repair'
  pub ready : StillReady repair.graph descent descent'
  pub most : total repair.graph.nodes repair'.spare.now ≤ total repair.graph.nodes repair.spare.now
