use Rattle.std.proofs.Common.{◌≡◌, ℕ, ◌<◌, get_or}
use Rattle.series.specs.Job.{job_of}
use Rattle.series.specs.Key.{role_at}
use Rattle.solutions.specs.Carried.{carried}
use Rattle.numbering.proofs.flow.write_amounts.Given as goal

abbrev pub invariant-loop-place : goal.invariant-loop-place
invariant-loop-place l = (k : ℕ) → k < l.place → get_or l.flow k 0 ≡ carried l.bytes (role_at (job_of l.series) k)
