use Rattle.std.proofs.Common.{eqb, rules}
use Rattle.std.proofs.lemmas.Bool.{eq-eqb, ne_eqb}
use Rattle.series.proofs.Tally.{one_more, none_more}
use Rattle.series.proofs.judge.uses.Goals as goal
use Rattle.series.proofs.judge.uses.Goals.{then-from-sign, else-from-sign}

pub loop-byte-preserved : goal.loop-byte-preserved
loop-byte-preserved c =
    let l = c.loop-byte in
    elim c.if-from-sign.branch [
      | then-from-sign w ↦ one_more c.args.bytes.now (λ b. eqb b c.args.sign) l.byte-index l.count l.invariant _ (eq-eqb _ _ (search rules)) w.count-is
      | else-from-sign w ↦ none_more c.args.bytes.now (λ b. eqb b c.args.sign) l.byte-index l.count l.invariant _ (ne_eqb _ _ (search rules)) w.count-is
    ]
