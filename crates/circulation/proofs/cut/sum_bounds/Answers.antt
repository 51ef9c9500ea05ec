use Rattle.std.proofs.Common.{cond, sym, ap, ◌∙◌, arith}
use Rattle.network.specs.Net.{tail, head, least, most}
use Rattle.network.specs.Flow.{entering, leaving}
use Rattle.index.specs.Graph.{net}
use Rattle.circulation.specs.Answers.{members}
use Rattle.circulation.proofs.Lines.{line_read, line_inside}
use Rattle.circulation.proofs.Sums.{summed_more, summed_fits}
use Rattle.circulation.proofs.cut.sum_bounds.Goals as goal

pub crossing-demand-requires : goal.crossing-demand-requires
crossing-demand-requires c =
    let graph = c.args.graph.now in
    let k = c.loop-line.line-index in
    let e = line_read graph c.lines-line-items.ensures k in
    let fit = graph.limits.each k (line_inside graph c.lines-line-items.ensures c.loop-line-test.true) in
    record { inside = omega (arith, ap head e, fit.head, c.requires); outside = omega (arith, ap tail e, fit.tail, c.requires) }

pub crossing-supply-requires : goal.crossing-supply-requires
crossing-supply-requires c =
    let graph = c.args.graph.now in
    let k = c.loop-line.line-index in
    let e = line_read graph c.lines-line-items.ensures k in
    let fit = graph.limits.each k (line_inside graph c.lines-line-items.ensures c.loop-line-test.true) in
    record { inside = omega (arith, ap tail e, fit.tail, c.requires); outside = omega (arith, ap head e, fit.head, c.requires) }

pub overflow_add-demand : goal.overflow_add-demand
overflow_add-demand c =
    let graph = c.args.graph.now in
    let test = entering (members c.args.bytes.now) in
    let e = line_read graph c.lines-line-items.ensures c.loop-line.line-index in
    let fits =
    summed_fits (net graph) least test c.loop-line.line-index graph.limits (λ i l. (graph.limits.each i l).ordered)
    (line_inside graph c.lines-line-items.ensures c.loop-line-test.true) (c.crossing-demand.ensures ∙ sym (ap (λ l. cond (test l) (least l) 0) e)) c.loop-line.invariant.demand in
    omega arith

pub overflow_add-supply : goal.overflow_add-supply
overflow_add-supply c =
    let graph = c.args.graph.now in
    let test = leaving (members c.args.bytes.now) in
    let e = line_read graph c.lines-line-items.ensures c.loop-line.line-index in
    let fits =
    summed_fits (net graph) most test c.loop-line.line-index graph.limits (λ i l. omega arith)
    (line_inside graph c.lines-line-items.ensures c.loop-line-test.true) (c.crossing-supply.ensures ∙ sym (ap (λ l. cond (test l) (most l) 0) e)) c.loop-line.invariant.supply in
    omega arith

pub loop-line-preserved : goal.loop-line-preserved
loop-line-preserved c =
    let graph = c.args.graph.now in
    let into = entering (members c.args.bytes.now) in
    let out = leaving (members c.args.bytes.now) in
    let e = line_read graph c.lines-line-items.ensures c.loop-line.line-index in
    record {
      demand = summed_more (net graph) least into c.loop-line.line-index (c.crossing-demand.ensures ∙ sym (ap (λ l. cond (into l) (least l) 0) e)) c.loop-line.invariant.demand;
      supply = summed_more (net graph) most out c.loop-line.line-index (c.crossing-supply.ensures ∙ sym (ap (λ l. cond (out l) (most l) 0) e)) c.loop-line.invariant.supply;
    }
