use Rattle.augment.specs.Phases.{Draining}
use Rattle.augment.proofs.repair.Repair.drain_all.Given as goal

abbrev pub invariant-loop-node : goal.invariant-loop-node
invariant-loop-node l = Draining l.initial.self l.initial.descent l.self l.descent
