use Rattle.std.proofs.Common.{ℕ, ◌<◌, ◌≤◌}
use Rattle.network.specs.Flow.{at}
use Rattle.reach.specs.Levels.{level}
use Rattle.circulation.proofs.circulate.find_source.Given as goal

abbrev pub invariant-loop-node : goal.invariant-loop-node
invariant-loop-node l = (k : ℕ) → k < l.node → 0 < at l.repair.spare.now k → l.repair.graph.nodes ≤ level l.distance k
