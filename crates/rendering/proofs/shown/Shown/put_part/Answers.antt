use Rattle.std.proofs.Common.{length, refl, ap, arith}
use Rattle.text.proofs.Putting.{puts_then, room_after}
use Rattle.rendering.proofs.Long.{name_long, signs_long}
use Rattle.rendering.proofs.Told.{told_unwrapped}
use Rattle.rendering.specs.Shown.{table}
use Rattle.rendering.proofs.shown.Shown.put_part.Goals as goal

pub put_byte-requires-3 : goal.put_byte-requires-3
put_byte-requires-3 g c =
    let labels = c.args.self.now.labels.now in
    let l = g.B.Labels.labelled labels in
    let small = g.B.Labels.small labels in
    let t = table g.L.Legend.key c.args.self.now in
    let name = ap length (told_unwrapped l.names c.args.part c.name.result c.unwrap_or.result _ c.unwrap_or.ensures refl c.name.ensures) in
    let long = name_long l small t c.args.part in
    let signs = signs_long l small t c.args.part (length l.texts) in
    omega (arith, small.signs, room_after c.put.ensures, room_after c.put_byte.ensures, room_after c.put_byte-2.ensures, room_after c.put_signs.ensures)

pub returns : goal.returns
returns g c =
    let name = told_unwrapped (g.B.Labels.labelled c.args.self.now.labels.now).names c.args.part c.name.result c.unwrap_or.result _ c.unwrap_or.ensures refl c.name.ensures in
    let marked = c.mark.ensures in
    rw (← name, ← marked) (puts_then (puts_then (puts_then (puts_then c.put.ensures c.put_byte.ensures) c.put_byte-2.ensures) c.put_signs.ensures) c.put_byte-3.ensures)
