use Rattle.std.proofs.Common.{arith}
use Rattle.text.proofs.Putting.{room_after}
use Rattle.rendering.proofs.InOrder.{puts_next}
use Rattle.rendering.proofs.Long.{signs_long}
use Rattle.rendering.specs.Shown.{table}
use Rattle.rendering.proofs.shown.Shown.put_signs.Goals as goal

pub put_sign-requires : goal.put_sign-requires
put_sign-requires g c =
    let labels = c.args.self.now.labels.now in
    let long = signs_long (g.B.Labels.labelled labels) (g.B.Labels.small labels) (table g.L.Legend.key c.args.self.now) c.args.part c.loop-sign.sign in
    omega (arith, room_after c.loop-sign.invariant, c.requires)

pub loop-sign-preserved : goal.loop-sign-preserved
loop-sign-preserved g c = puts_next c.loop-sign.sign _ c.loop-sign.invariant c.put_sign.ensures
