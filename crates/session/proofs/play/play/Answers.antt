use Rattle.std.proofs.Common.{◌≡◌, ◌<◌, length, get_or, ap, ◌∙◌, subst, arith}
use Rattle.std.proofs.lemmas.List.{get_or_default}
use Rattle.layers.specs.Column.{entries_of}
use Rattle.layers.specs.Present.{Standing}
use Rattle.session.specs.Log.{after_call}
use Rattle.session.specs.Promise.{Answered, no_turn}
use Rattle.session.proofs.Loop.{goes_on, next_call}
use Rattle.session.proofs.play.play.Goals as goal

pub loop-turn-preserved : goal.loop-turn-preserved
loop-turn-preserved g c =
    let meaning = g.N.Network.meaning in
    let l = c.loop-turn in
    let i = l.turn-index in
    let before = c.args.turns.now in
    let under = l.invariant.0 in
    let n = meaning c.new-layer.result.below in
    let es = entries_of l.layer.column in
    let after = entries_of c.make.new.layer.column in
    let t = c.make.new.turn in
    let there : i < length l.turns = omega (arith, l.invariant.1.long) in
    let waiting = get_or l.turns i c.turn-item.result in
    let given : waiting ≡ get_or before i no_turn =
    get_or_default l.turns i c.turn-item.result no_turn there ∙ next_call n before l.turns es i l.invariant.1 c.loop-turn-test.true in
    let call = ap (λ u. u.call) given in
    let stands = subst (λ b. Standing (meaning b) after) under c.make.ensures.stands in
    let column = subst (λ x. after ≡ after_call n es x) call (subst (λ b. after ≡ after_call (meaning b) es waiting.call) under c.make.ensures.column) in
    let answered = subst (λ x. Answered n es x t) call (subst (λ b. Answered (meaning b) es waiting.call t) under c.make.ensures.answered) in
    (c.make.ensures.below ∙ under, goes_on n before l.turns es i l.invariant.1 c.loop-turn-test.true t after stands column answered)
