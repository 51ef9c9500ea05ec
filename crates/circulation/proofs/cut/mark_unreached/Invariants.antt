use Rattle.std.proofs.Common.{◌≡◌, ℕ, ◌<◌, cond, ltb, get_or}
use Rattle.reach.specs.Levels.{level}
use Rattle.circulation.proofs.cut.mark_unreached.Given as goal

abbrev pub invariant-loop-node : goal.invariant-loop-node
invariant-loop-node l = (k : ℕ) → k < l.node → get_or l.bytes k 0 ≡ cond (ltb (level l.distance k) l.nodes) 0 1
