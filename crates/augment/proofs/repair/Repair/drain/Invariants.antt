use Rattle.network.specs.Flow.{at}
use Rattle.augment.specs.Phases.{Draining}
use Rattle.augment.proofs.repair.Repair.drain.Given as goal

abbrev pub invariant-loop-self : goal.invariant-loop-self
invariant-loop-self l = Draining l.initial.self l.initial.descent l.self l.descent

-- each push leaves the node less to spare
abbrev pub decreases-loop-self : goal.decreases-loop-self
decreases-loop-self l = at l.self.spare.now l.from
