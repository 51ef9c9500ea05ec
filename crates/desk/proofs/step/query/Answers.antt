use Rattle.std.proofs.Common.{ℕ, ◌≤◌, replicate, None, Ok, Err, vec_items, sym, refl, subst, arith}
use Rattle.std.proofs.lemmas.List.{length-replicate}
use Rattle.acts.specs.Lines.{accepted_line, refused_line}
use Rattle.layers.specs.Column.{entries_of}
use Rattle.layers.specs.Entries.{net_under}
use Rattle.text.proofs.Places.{placed_front}
use Rattle.desk.specs.Steps.{Appended}
use Rattle.desk.specs.Transcript.{query_text}
use Rattle.desk.proofs.Stepping.{appended_then, steps_from, queried, finds_refusal}
use Rattle.desk.proofs.step.query.Goals as goal

pub returns-in_ok-append_accepted-in-Ok : goal.returns-in_ok-append_accepted-in-Ok
returns-in_ok-append_accepted-in-Ok g c =
    let layer = c.args.layer.now in
    let m = g.L.Network.meaning layer.below in
    let key = g.L.Legend.key layer.below in
    let l = g.B.Labels.labelled c.args.labels.now in
    let es = entries_of layer.column in
    let number = c.args.number in
    let so_far = vec_items c.args.transcript.now in
    let mid = vec_items c.append_accepted.new.transcript in
    let then = vec_items c.append_front.new.transcript in
    let r = c.append_front.result in
    let w = c.in-Ok.ensures in
    let listed = subst (λ xs. Appended mid then xs r) (placed_front w.placed) c.append_front.ensures in
    let appended = appended_then so_far mid then (accepted_line number) w.bytes r c.in_ok-append_accepted-in-Ok.ensures listed in
    steps_from m key l number None es es so_far then (query_text number (Ok w.bytes)) r appended (queried m key l number es c.requires (Ok w.bytes) w.finds) refl c.requires

pub returns-in-Err : goal.returns-in-Err
returns-in-Err g c =
    let layer = c.args.layer.now in
    let m = g.L.Network.meaning layer.below in
    let key = g.L.Legend.key layer.below in
    let l = g.B.Labels.labelled c.args.labels.now in
    let es = entries_of layer.column in
    let number = c.args.number in
    let x = c.in-Err.refusal in
    let so_far = vec_items c.args.transcript.now in
    let then = vec_items c.append_refused.new.transcript in
    let r = c.append_refused.result in
    let appended = subst (λ n. Appended so_far then (refused_line number n) r) c.number.ensures c.append_refused.ensures in
    steps_from m key l number None es es so_far then (query_text number (Err x)) r appended (queried m key l number es c.requires (Err x) (finds_refusal (net_under m es) key l (replicate 40960 0) c.list.new.text x (subst (λ n. 40960 ≤ n) (sym (length-replicate {A = ℕ} 40960 0)) (omega arith)) c.in-Err.ensures)) refl c.requires
