use Rattle.rendering.specs.Render.{in_order, part_text}
use Rattle.rendering.specs.Shown.{table}
use Rattle.text.specs.Puts.{Puts}
use Rattle.rendering.proofs.shown.Shown.put_parts.Given as goal

abbrev pub invariant-loop-part : goal.invariant-loop-part
invariant-loop-part g l =
    Puts l.initial.text (in_order l.part (part_text (g.B.Labels.labelled l.self.labels.now) (table g.L.Legend.key l.self))) l.text
