use Rattle.std.proofs.Common.{length}
use Rattle.network.specs.Flow.{at}
use Rattle.reach.specs.Search.{Seeded}
use Rattle.reach.proofs.levels.seed.Given as goal

abbrev pub invariant-loop-node : goal.invariant-loop-node
invariant-loop-node l = Seeded (length l.lack) (at l.lack) l.node l.queue.cells.now l.queue.len l.distance
