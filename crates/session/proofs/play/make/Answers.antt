use Rattle.std.proofs.Common.{refl, subst}
use Rattle.layers.specs.Column.{entries_of}
use Rattle.layers.proofs.Standing.{lays_standing, undoes_standing, standing_net}
use Rattle.sift.specs.Sifted.{Sifted}
use Rattle.session.specs.Promise.{held}
use Rattle.session.proofs.Steps.{laid, undone, sifted}
use Rattle.session.proofs.play.make.Goals as goal
use Rattle.session.proofs.play.make.Goals.{in-Lay, in-Undo, in-Sift}

pub returns : goal.returns
returns g c =
    let m = g.N.Network.meaning c.args.layer.now.below in
    let es = entries_of c.args.layer.now.column in
    let call = c.args.turn.now.call in
    elim c.match-turn.branch [
      | in-Lay w ↦
          let after = entries_of w.lay.new.self.column in
          let e = w.in-Lay.entry in
          let r = w.lay.result in
          let s = lays_standing m e es after r w.lay.ensures.lays c.requires in
          let logged = laid m es after call e r w.in-Lay.is s.lays in
          rw (w.layer-is, w.turn-is, w.answer-is) (record { below = w.lay.ensures.below; stands = s.stands; column = logged.column; answered = logged.answered })
      | in-Undo w ↦
          let after = entries_of w.undo.new.self.column in
          let r = w.undo.result in
          let undoes = w.undo.ensures.undoes in
          let logged = undone m es after call r w.in-Undo.is undoes in
          rw (w.layer-is, w.turn-is, w.answer-is) (record { below = w.undo.ensures.below; stands = undoes_standing m es after r undoes c.requires; column = logged.column; answered = logged.answered })
      | in-Sift w ↦
          let after = entries_of c.args.layer.now.column in
          let b = w.in-Sift.buffers in
          let b' = w.sift_in.new.buffers in
          let r = w.sift_in.result in
          let under = subst (λ n. Sifted n (held b) (held b') r) (standing_net m es c.requires) w.sift_in.ensures in
          let logged = sifted m es es call b b' r w.in-Sift.is refl under in
          rw (w.layer-is, w.turn-is, w.answer-is) (record { below = refl; stands = c.requires; column = logged.column; answered = logged.answered })
    ]
