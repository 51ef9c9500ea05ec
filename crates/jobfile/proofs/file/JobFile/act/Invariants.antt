use Rattle.std.proofs.Common.{◌≡◌, ◌+◌, length}
use Rattle.jobfile.proofs.ActLists.{acts_before}
use Rattle.jobfile.proofs.file.JobFile.act.Given as goal

abbrev pub invariant-loop-a : goal.invariant-loop-a
invariant-loop-a l = l.k ≡ length (acts_before l.self.file.now l.a) + l.left
