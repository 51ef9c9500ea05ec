use Rattle.std.proofs.Common.{[], ap, ◌∙◌, arith}
use Rattle.reach.specs.Search.{Seeded}
use Rattle.reach.proofs.Renamed.{renamed}
use Rattle.reach.proofs.Spread.{seeded_skip, seeded_more, seeded_room}
use Rattle.reach.proofs.levels.seed.Goals as goal
use Rattle.reach.proofs.levels.seed.Goals.{then-amount-gt0, else-amount-gt0}

pub enqueue-requires-clause-room : goal.enqueue-requires-clause-room
enqueue-requires-clause-room c =
    let front = c.loop-node.invariant.front [] (λ _. 0) in
    omega (arith, front.places, seeded_room c.loop-node.invariant c.loop-node-test.true)

pub loop-node-preserved : goal.loop-node-preserved
loop-node-preserved c =
    elim c.if-amount-gt0.branch [
      | then-amount-gt0 w ↦
          renamed (Seeded _ _ _) (ap (λ q. q.cells.now) w.queue-is ∙ w.enqueue.ensures.cells)
          (ap (λ q. q.len) w.queue-is ∙ w.enqueue.ensures.count) (w.distance-is ∙ w.enqueue.ensures.distance)
          (seeded_more c.loop-node.invariant c.loop-node-test.true w.if-amount-gt0.true)
      | else-amount-gt0 w ↦
          renamed (Seeded _ _ _) (ap (λ q. q.cells.now) w.queue-is) (ap (λ q. q.len) w.queue-is) w.distance-is
          (seeded_skip c.loop-node.invariant c.loop-node-test.true (omega (arith, w.if-amount-gt0.false)))
    ]
