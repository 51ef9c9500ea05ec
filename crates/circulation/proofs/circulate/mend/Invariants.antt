use Rattle.augment.specs.Pushes.{total}
use Rattle.augment.specs.Repairs.{SameMemory}
use Rattle.circulation.proofs.circulate.mend.Given as goal

abbrev pub invariant-loop-graph : goal.invariant-loop-graph
invariant-loop-graph l = SameMemory l.initial.repair l.repair

abbrev pub decreases-loop-graph : goal.decreases-loop-graph
decreases-loop-graph l = total l.initial.repair.graph.nodes l.repair.spare.now
