use Rattle.std.proofs.Common.{refl}
use Rattle.text.proofs.Putting.{puts_then}
use Rattle.rendering.proofs.Told.{told_unwrapped}
use Rattle.rendering.proofs.shown.Shown.put_sign.Goals as goal

pub returns-then-not-is_fixed_at : goal.returns-then-not-is_fixed_at
returns-then-not-is_fixed_at g c =
    let label = told_unwrapped (g.B.Labels.labelled c.args.self.now.labels.now).texts c.args.sign c.text.result c.unwrap_or.result _ c.unwrap_or.ensures refl c.text.ensures in
    let line = c.pair_line.ensures in
    let free = c.if-not-is_fixed_at.ensures in
    rw (← line, ← free, ← label) (puts_then c.put_byte.ensures c.put.ensures)
