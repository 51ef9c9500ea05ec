use Rattle.std.proofs.Common.{◌≡◌}
use Rattle.layers.specs.Column.{entries_of}
use Rattle.session.proofs.Loop.{Going}
use Rattle.session.proofs.play.play.Given as goal

abbrev pub invariant-loop-turn : goal.invariant-loop-turn
invariant-loop-turn g l = (l.layer.below ≡ l.initial.layer.below) × Going (g.N.Network.meaning l.initial.layer.below) l.initial.turns l.turns (entries_of l.layer.column) l.turn-index
