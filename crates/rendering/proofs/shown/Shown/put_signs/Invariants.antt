use Rattle.rendering.specs.Render.{in_order, sign_text}
use Rattle.rendering.specs.Shown.{table}
use Rattle.text.specs.Puts.{Puts}
use Rattle.rendering.proofs.shown.Shown.put_signs.Given as goal

abbrev pub invariant-loop-sign : goal.invariant-loop-sign
invariant-loop-sign g l =
    Puts l.initial.text (in_order l.sign (sign_text (g.B.Labels.labelled l.self.labels.now) (table g.L.Legend.key l.self) l.part)) l.text
