use Rattle.std.proofs.Common.{rules, ◌≡◌, length, ap, arith}
use Rattle.text.proofs.Putting.{puts_front, room_after}
use Rattle.rendering.proofs.InOrder.{puts_next}
use Rattle.rendering.proofs.Long.{parts_long}
use Rattle.rendering.specs.Shown.{table}
use Rattle.rendering.proofs.shown.Shown.put_parts.Goals as goal

pub put_part-requires : goal.put_part-requires
put_part-requires g c =
    let labels = c.args.self.now.labels.now in
    let long = parts_long (g.B.Labels.labelled labels) (g.B.Labels.small labels) (table g.L.Legend.key c.args.self.now) c.loop-part.part in
    omega (arith, room_after c.loop-part.invariant, ap length c.new-text.ensures.kept, (g.B.Labels.small labels).parts)

pub loop-part-preserved : goal.loop-part-preserved
loop-part-preserved g c = puts_next c.loop-part.part _ c.loop-part.invariant c.put_part.ensures

pub returns : goal.returns
returns g c =
    let all : c.loop-part.part ≡ length (g.B.Labels.labelled c.args.self.now.labels.now).names = omega arith in
    rw (← all) (search (rules, puts_front))
