use Rattle.std.proofs.Common.{length}
use Rattle.circulation.specs.Gathering.{SameDifference}
use Rattle.circulation.proofs.start.settle.Given as goal

abbrev pub invariant-loop-node : goal.invariant-loop-node
invariant-loop-node l = SameDifference (length l.initial.spare) l.initial.spare l.initial.lack l.spare l.lack
