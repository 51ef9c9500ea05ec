use Rattle.std.proofs.Common.{ℕ, ◌<◌, ◌≤◌}
use Rattle.network.specs.Flow.{at}
use Rattle.index.specs.Graph.{net}
use Rattle.index.specs.Rows.{step_at}
use Rattle.reach.specs.Levels.{LeadsDown}
use Rattle.augment.proofs.walk.seek.Given as goal

-- no step below place k leads down
abbrev pub invariant-loop-k : goal.invariant-loop-k
invariant-loop-k l =
    (j : ℕ) → j < l.k → l.from ≤ j → LeadsDown (net l.repair.graph) (at l.repair.flow.now) l.distance l.node (step_at l.repair.graph.steps.now j) → ⊥
