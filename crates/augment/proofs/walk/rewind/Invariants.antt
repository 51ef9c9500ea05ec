use Rattle.std.proofs.Common.{◌≡◌, ℕ, ◌<◌}
use Rattle.index.specs.Rows.{start}
use Rattle.augment.specs.Cursors.{place}
use Rattle.augment.proofs.walk.rewind.Given as goal

abbrev pub invariant-loop-node : goal.invariant-loop-node
invariant-loop-node l = (k : ℕ) → k < l.node → place l.cursor k ≡ start l.graph.starts.now k
