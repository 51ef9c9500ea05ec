use Rattle.std.proofs.Common.{length, sym, refl, ap, ◌∙◌, arith}
use Rattle.std.proofs.lemmas.Bool.{ltb-true, ltb-false}
use Rattle.network.proofs.Records.{size_is}
use Rattle.reach.specs.Levels.{level}
use Rattle.reach.specs.Search.{Visiting}
use Rattle.reach.proofs.Renamed.{renamed}
use Rattle.reach.proofs.Front.{front_room}
use Rattle.reach.proofs.Visit.{visit_leaves, visit_inside, visit_target, visiting_skip, visiting_more, finished_row}
use Rattle.reach.proofs.levels.visit.Goals as goal
use Rattle.reach.proofs.levels.visit.Goals.{then-distance-other+then-can_come, else-distance-other, else-distance-other-via-then-distance-other+else-can_come, else-distance-other-via-else-distance-other}

pub target-other-requires : goal.target-other-requires
target-other-requires c =
    let leaves = visit_leaves c.loop-step.invariant c.requires.node c.row-step-items.ensures c.loop-step-test.true in
    omega (arith, leaves.inside, size_is c.args.load.now.graph.nodes c.args.load.now.graph.lines.now, ap length c.lines.ensures)

pub can_come-requires : goal.can_come-requires
can_come-requires c =
    let leaves = visit_leaves c.loop-step.invariant c.requires.node c.row-step-items.ensures c.loop-step-test.true in
    record { inside = leaves.inside; direction = leaves.direction }

pub enqueue-requires-clause-room : goal.enqueue-requires-clause-room
enqueue-requires-clause-room c =
    let inside = visit_inside c.loop-step.invariant c.requires.node c.row-step-items.ensures c.loop-step-test.true in
    let to = visit_target c.loop-step.invariant c.requires.node c.row-step-items.ensures c.loop-step-test.true c.lines.ensures c.target-other.ensures in
    let few = front_room c.loop-step.invariant.front c.target-other.result (omega (arith, to)) (omega (arith, c.if-distance-other.true, c.nodes.ensures)) in
    omega (arith, c.loop-step.invariant.front.places)

pub loop-step-preserved : goal.loop-step-preserved
loop-step-preserved c =
    let now = c.loop-step.invariant in
    let to = visit_target c.loop-step.invariant c.requires.node c.row-step-items.ensures c.loop-step-test.true c.lines.ensures c.target-other.ensures in
    elim c.if-distance-other.branch [
      | then-distance-other+then-can_come w ↦
          renamed (Visiting _ _ _ _ _ _ _) (ap (λ q. q.cells.now) w.queue-is ∙ w.enqueue.ensures.cells)
          (ap (λ q. q.len) w.queue-is ∙ w.enqueue.ensures.count) (w.distance-is ∙ w.enqueue.ensures.distance)
          (visiting_more now c.requires.node c.row-step-items.ensures c.loop-step-test.true c.requires.near _ _ to refl
          (omega (arith, w.if-distance-other.true, c.nodes.ensures)) (ltb-true _ _ (sym w.can_come.ensures ∙ w.if-can_come.true)))
      | else-distance-other w ↦
          renamed (Visiting _ _ _ _ _ _ _) (ap (λ q. q.cells.now) w.queue-is) (ap (λ q. q.len) w.queue-is) w.distance-is
          (visiting_skip now c.requires.node c.row-step-items.ensures c.loop-step-test.true
          (elim w.else-distance-other.branch [
            | else-distance-other-via-then-distance-other+else-can_come w' ↦ λ some. absurd (omega (arith, ltb-false _ _ (sym w'.can_come.ensures ∙ w'.if-can_come.false)))
            | else-distance-other-via-else-distance-other w' ↦ λ _. omega (arith, w'.if-distance-other.false, c.nodes.ensures, ap (level c.loop-step.distance) to)
          ]))
    ]

pub returns-clause-finished : goal.returns-clause-finished
returns-clause-finished c =
    finished_row c.args.load.now.graph c.requires.node (omega (arith, c.loop-step-test.false, ap length c.row-step-items.ensures)) c.loop-step.invariant.tried
