use Rattle.std.proofs.Common.{not, eqb}
use Rattle.series.specs.Numbering.{unsigned}
use Rattle.series.proofs.Tally.{Counted}
use Rattle.series.proofs.judge.signed.Given as goal

abbrev pub invariant-loop-byte : goal.invariant-loop-byte
invariant-loop-byte l = Counted l.bytes (λ b. not (eqb b unsigned)) l.byte-index l.count
