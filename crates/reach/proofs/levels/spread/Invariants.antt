use Rattle.std.proofs.Common.{◌-◌}
use Rattle.network.specs.Flow.{at}
use Rattle.index.specs.Graph.{net}
use Rattle.reach.specs.Search.{Spreading}
use Rattle.reach.proofs.levels.spread.Given as goal

-- the nodes at the places below `done` are finished
abbrev pub invariant-loop-node : goal.invariant-loop-node
invariant-loop-node l =
    Spreading (net l.load.graph) (at l.load.flow.now) l.initial.queue.cells.now l.initial.queue.len l.initial.distance l.done l.queue.cells.now l.queue.len l.distance

-- no more nodes can be visited than there are
abbrev pub decreases-loop-node : goal.decreases-loop-node
decreases-loop-node l = l.load.graph.nodes - l.done
