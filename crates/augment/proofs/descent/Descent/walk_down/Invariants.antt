use Rattle.std.proofs.Common.{◌≡◌, ◌+◌, ◌*◌}
use Rattle.network.specs.Flow.{at}
use Rattle.index.specs.Graph.{net}
use Rattle.reach.specs.Levels.{level, Near}
use Rattle.augment.specs.Cursors.{ahead}
use Rattle.augment.specs.Walks.{Descending}
use Rattle.augment.proofs.descent.Descent.walk_down.Given as goal

-- the walk is under way
abbrev pub invariant-loop-node : goal.invariant-loop-node
invariant-loop-node l =
    record {
      levels : l.self.distance.now ≡ l.initial.self.distance.now;
      near : Near (net l.repair.graph) l.self.distance.now l.from;
      way : Descending l.repair.graph (at l.repair.flow.now) (at l.repair.lack.now) l.self.distance.now l.initial.self.cursor.now l.from l.self.cursor.now l.node l.self.walk.cells.now l.self.walk.len;
    }

-- a step down lowers the level by one, and a step back raises it by one and moves a cursor on
abbrev pub decreases-loop-node : goal.decreases-loop-node
decreases-loop-node l = 2 * ahead l.repair.graph l.self.cursor.now + level l.self.distance.now l.node
