use Rattle.std.proofs.Common.{not, eqb, length, arith}
use Rattle.flows.proofs.Sums.{count_le}
use Rattle.series.specs.Numbering.{byte_at, unsigned}
use Rattle.numbering.proofs.flow.amount.Goals as goal

pub overflow_cast-result : goal.overflow_cast-result
overflow_cast-result c = omega (arith, c.uses.ensures, count_le (length c.args.bytes.now) (λ p. eqb (byte_at c.args.bytes.now p) c.in-Count.sign))

pub overflow_cast-result-in-Other : goal.overflow_cast-result-in-Other
overflow_cast-result-in-Other c = omega (arith, c.signed.ensures, count_le (length c.args.bytes.now) (λ p. not (eqb (byte_at c.args.bytes.now p) unsigned)))
