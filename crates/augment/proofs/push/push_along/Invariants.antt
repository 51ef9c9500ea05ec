use Rattle.std.proofs.Common.{◌≡◌}
use Rattle.flows.specs.Steps.{pushed}
use Rattle.augment.specs.Walks.{trodden}
use Rattle.augment.proofs.push.push_along.Given as goal

abbrev pub invariant-loop-step : goal.invariant-loop-step
invariant-loop-step l = l.flow ≡ pushed (trodden l.walk.cells.now l.step-index) l.amount l.initial.flow
