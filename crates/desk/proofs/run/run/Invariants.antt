use Rattle.std.proofs.Common.{◌≡◌, vec_items}
use Rattle.layers.specs.Column.{entries_of}
use Rattle.desk.proofs.Loop.{Going}
use Rattle.desk.proofs.run.run.Given as goal

abbrev pub invariant-loop-k : goal.invariant-loop-k
invariant-loop-k g l =
    (l.layer.below ≡ l.initial.layer.below)
    × Going (g.L.Network.meaning l.initial.layer.below) (g.L.Legend.key l.initial.layer.below) (g.B.Labels.labelled l.labels) l.acts (entries_of l.layer.column) (vec_items l.transcript) l.k
