use Rattle.std.proofs.Common.{ℕ, ◌+◌, sym, ◌∙◌, subst, arith}
use Rattle.buffers.specs.declared.marks.Marks.{Marks}
use Rattle.buffers.specs.declared.places.Places.{Places}
use Rattle.index.specs.Graph.{net}
use Rattle.verdicts.specs.Search.{found}
use Rattle.verdicts.proofs.Found.{marked_inside}
use Rattle.verdicts.proofs.Rows.{comes_to, row_leaves, row_line, row_target}
use Rattle.verdicts.proofs.Visit.{Underway, visiting_past, visiting_more, visit_grows, visit_finds, visited}
use Rattle.verdicts.proofs.search.Search.visit_node.Goals as goal
use Rattle.verdicts.proofs.search.Search.visit_node.Goals.{then-is_passable+else-next-self, else-is_passable}

pub is_passable-requires : goal.is_passable-requires
is_passable-requires c =
    let inside = marked_inside (found c.args.marks.now c.args.list.now) c.args.node c.requires.nodes c.requires.node in
    row_line c.args.self.now.graph.now c.args.node inside c.row-step-items.ensures c.loop-step.step-index c.loop-step-test.true

pub find_node-requires : goal.find_node-requires
find_node-requires c =
    let g = c.args.self.now.graph.now in
    let grows = c.loop-step.invariant.1.grows in
    let inside = marked_inside (found c.args.marks.now c.args.list.now) c.args.node c.requires.nodes c.requires.node in
    let next = row_target g c.args.node inside c.row-step-items.ensures c.loop-step.step-index c.loop-step-test.true in
    let end = comes_to g c.lines.ensures _ c.target-next.ensures in
    record {
      listed = grows.listed;
      node = omega (arith, next, end, c.requires.nodes, grows.nodes);
      small = omega (arith, grows.nodes, c.requires.nodes, g.limits.nodes);
    }

pub returns-then-next-self : goal.returns-then-next-self
returns-then-next-self c =
    let g = c.args.self.now.graph.now in
    let inside = marked_inside (found c.args.marks.now c.args.list.now) c.args.node c.requires.nodes c.requires.node in
    let leaves = row_leaves g c.args.node inside c.row-step-items.ensures c.loop-step.step-index c.loop-step-test.true in
    let end = comes_to g c.lines.ensures _ c.target-next.ensures in
    let kept = c.loop-step.invariant.0 in
    let visiting = c.loop-step.invariant.1 in
    let find = c.find_node.ensures in
    record {
      marks = find.marks ∙ kept.bytes;
      list = find.list ∙ kept.cells;
      grows = visit_grows visiting leaves c.requires.node c.if-is_passable.ensures _ end find.adds;
      visits = visit_finds visiting leaves c.requires.node c.if-is_passable.ensures _ end find.adds c.if-next-self.true;
    }

pub loop-step-preserved : goal.loop-step-preserved
loop-step-preserved c =
    let g = c.args.self.now.graph.now in
    let inside = marked_inside (found c.args.marks.now c.args.list.now) c.args.node c.requires.nodes c.requires.node in
    let leaves = row_leaves g c.args.node inside c.row-step-items.ensures c.loop-step.step-index c.loop-step-test.true in
    let kept = c.loop-step.invariant.0 in
    let visiting = c.loop-step.invariant.1 in
    let On : Marks → Places ℕ → Type 0 =
    Underway (net g) c.args.self.now.flow.now c.args.self.now.avoid c.args.self.now.sought c.row-step-items.result.now
    (c.loop-step.step-index + 1) c.args.marks.now c.args.list.now in
    elim c.if-is_passable.branch [
      | then-is_passable+else-next-self w ↦
          let find = w.find_node.ensures in
          let end = comes_to g w.lines.ensures _ w.target-next.ensures in
          subst (λ m. On m c.if-is_passable.list) (sym w.marks-is)
          (subst (On w.find_node.new.marks) (sym w.list-is) (
            record { bytes = find.marks ∙ kept.bytes; cells = find.list ∙ kept.cells },
            visiting_more visiting leaves c.requires.node w.if-is_passable.ensures _ end find.adds w.if-next-self.false,
          ))
      | else-is_passable w ↦
          subst (λ m. On m c.if-is_passable.list) (sym w.marks-is)
          (subst (On c.loop-step.marks) (sym w.list-is) (kept, visiting_past visiting w.if-is_passable.ensures))
    ]

pub returns-clause-visits : goal.returns-clause-visits
returns-clause-visits c =
    let inside = marked_inside (found c.args.marks.now c.args.list.now) c.args.node c.requires.nodes c.requires.node in
    visited c.args.self.now.graph.now c.args.node inside c.row-step-items.ensures c.loop-step-test.false c.loop-step.invariant.1
