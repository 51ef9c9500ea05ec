use Rattle.std.proofs.Common.{eqb}
use Rattle.series.proofs.Tally.{Counted}
use Rattle.series.proofs.judge.uses.Given as goal

abbrev pub invariant-loop-byte : goal.invariant-loop-byte
invariant-loop-byte l = Counted l.bytes (λ b. eqb b l.sign) l.byte-index l.count
