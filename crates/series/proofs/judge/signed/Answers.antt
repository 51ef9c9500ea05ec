use Rattle.std.proofs.Common.{not, eqb}
use Rattle.std.proofs.lemmas.Bool.{eq-eqb, ne_eqb, not_from_true, not_from_false}
use Rattle.series.specs.Numbering.{unsigned}
use Rattle.series.proofs.Tally.{one_more, none_more}
use Rattle.series.proofs.judge.signed.Goals as goal
use Rattle.series.proofs.judge.signed.Goals.{then-byte, else-byte}

pub loop-byte-preserved : goal.loop-byte-preserved
loop-byte-preserved c =
    let l = c.loop-byte in
    elim c.if-byte.branch [
      | then-byte w ↦ one_more c.args.bytes.now (λ b. not (eqb b unsigned)) l.byte-index l.count l.invariant _ (not_from_false _ (ne_eqb _ _ w.if-byte.true)) w.count-is
      | else-byte w ↦ none_more c.args.bytes.now (λ b. not (eqb b unsigned)) l.byte-index l.count l.invariant _ (not_from_true _ (eq-eqb _ _ w.if-byte.false)) w.count-is
    ]
