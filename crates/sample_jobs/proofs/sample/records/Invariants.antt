use Rattle.std.proofs.Common.{◌≡◌, take}
use Rattle.sample_jobs.specs.Sampled.{records_of}
use Rattle.sample_jobs.proofs.sample.records.Given as goal

abbrev pub invariant-loop-named : goal.invariant-loop-named
invariant-loop-named g l = l.records.items ≡ records_of (take l.named-index l.fn.named)
