use Rattle.std.proofs.Common.{Some, vec_items, ap, subst}
use Rattle.acts.specs.Lines.{act_line}
use Rattle.layers.specs.Column.{entries_of}
use Rattle.text.proofs.Places.{placed_front}
use Rattle.desk.specs.Steps.{Appended}
use Rattle.desk.proofs.Stepping.{steps_from}
use Rattle.desk.proofs.step.change.Goals as goal

pub returns : goal.returns
returns g c =
    let layer = c.args.layer.now in
    let after = c.act_line.new.layer in
    let number = c.args.number in
    let made = c.in-Ok.ensures in
    let logged = made.acts.logged c.requires in
    let so_far = vec_items c.args.transcript.now in
    let then = vec_items c.append_front.new.transcript in
    let bytes = act_line number made.answer in
    let appended = subst (λ xs. Appended so_far then xs c.append_front.result) (placed_front made.line) c.append_front.ensures in
    record {
      below = made.acts.below;
      steps = steps_from (g.L.Network.meaning layer.below) (g.L.Legend.key layer.below) (g.B.Labels.labelled c.args.labels.now) number (Some c.args.change) (entries_of layer.column) (entries_of after.column) so_far then bytes c.append_front.result appended (ap (act_line number) logged.answer) logged.left logged.stands;
    }
