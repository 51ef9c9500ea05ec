use Rattle.std.proofs.Common.{◌≡◌, map}
use Rattle.std.specs.List.{range_with_len}
use Rattle.layout.specs.Places.{record_at}
use Rattle.jobfile.proofs.job_records.listed.Given as goal

abbrev pub invariant-loop-k : goal.invariant-loop-k
invariant-loop-k g l = l.records.items ≡ map (λ k. g.R.Record.described (record_at l.file l.start k)) (range_with_len 0 l.k)
