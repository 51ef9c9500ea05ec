use Rattle.network.specs.Flow.{at}
use Rattle.index.specs.Graph.{net}
use Rattle.augment.specs.Pushes.{Narrowest}
use Rattle.augment.proofs.push.narrowest.Given as goal

abbrev pub invariant-loop-step : goal.invariant-loop-step
invariant-loop-step l = Narrowest (net l.repair.graph) (at l.repair.flow.now) l.walk.cells.now l.step-index l.limit l.amount
