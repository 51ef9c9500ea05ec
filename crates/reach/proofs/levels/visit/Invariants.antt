use Rattle.network.specs.Flow.{at}
use Rattle.reach.specs.Search.{Visiting}
use Rattle.reach.proofs.levels.visit.Given as goal

-- the steps of the row so far are tried
abbrev pub invariant-loop-step : goal.invariant-loop-step
invariant-loop-step l =
    Visiting l.load.graph (at l.load.flow.now) l.node l.initial.queue.cells.now l.initial.queue.len l.initial.distance l.step-index l.queue.cells.now l.queue.len l.distance
