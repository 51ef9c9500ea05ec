use Rattle.std.proofs.Common.{◌∙◌}
use Rattle.verdicts.proofs.Visits.{read_some, read_none, searching_more, closed_by}
use Rattle.verdicts.proofs.search.Search.visit_all.Goals as goal

pub loop-node-preserved : goal.loop-node-preserved
loop-node-preserved c =
    let kept = c.loop-node.invariant.0 in
    let searching = c.loop-node.invariant.1 in
    let read = read_some _ searching.grows.listed c.loop-node.read c.in-Some.node c.in-Some.ensures in
    let visit = c.if-visit_node.ensures in (
      record { bytes = visit.marks ∙ kept.bytes; cells = visit.list ∙ kept.cells },
      searching_more searching visit.grows c.in-Some.node read.0 read.1 visit.visits,
    )

pub returns-clause-ends : goal.returns-clause-ends
returns-clause-ends c =
    let searching = c.loop-node.invariant.1 in
    (searching.unseen, closed_by searching (read_none _ searching.grows.listed c.loop-node.read c.in_default.ensures))
