use Rattle.std.proofs.Common.{ap, ◌∙◌}
use Rattle.session.proofs.Faithful.{faithful}
use Rattle.session.proofs.run.run.Goals as goal

pub returns : goal.returns
returns g c = record {
  back = ap (λ x. (x, c.play-b.result)) c.play-a.ensures.back ∙ ap (λ y. (c.args.a, y)) c.play-b.ensures.back;
  faithful = faithful (g.A.Network.meaning c.args.a) (g.B.Network.meaning c.args.b) c.args.first.now c.play-a.new.turns c.args.second.now c.play-b.new.turns c.play-a.ensures.played c.play-b.ensures.played;
}
