use Rattle.std.proofs.Common.{ap, arith}
use Rattle.network.specs.Net.{tail, head, least}
use Rattle.circulation.proofs.Lines.{line_read, line_inside}
use Rattle.circulation.proofs.Gathering.{gathered_more, head_fits, tail_fits}
use Rattle.circulation.proofs.start.gather.Goals as goal

pub add-requires : goal.add-requires
add-requires c =
    let graph = c.args.graph.now in
    let k = c.loop-line.line-index in
    let e = line_read graph c.lines-line-items.ensures k in
    let fits = head_fits c.loop-line.invariant graph.limits (line_inside graph c.lines-line-items.ensures c.loop-line-test.true) _ _ (ap least e) (ap head e) in
    record { inside = omega (arith, fits.0, c.loop-line.auto.entered, c.fill.auto.self, c.requires.entered); fits = fits.1 }

pub add-requires-in-loop-line : goal.add-requires-in-loop-line
add-requires-in-loop-line c =
    let graph = c.args.graph.now in
    let k = c.loop-line.line-index in
    let e = line_read graph c.lines-line-items.ensures k in
    let fits = tail_fits c.loop-line.invariant graph.limits (line_inside graph c.lines-line-items.ensures c.loop-line-test.true) _ _ (ap least e) (ap tail e) in
    record { inside = omega (arith, fits.0, c.loop-line.auto.left, c.fill-2.auto.self, c.requires.left); fits = fits.1 }

pub loop-line-preserved : goal.loop-line-preserved
loop-line-preserved c =
    let graph = c.args.graph.now in
    let k = c.loop-line.line-index in
    let e = line_read graph c.lines-line-items.ensures k in
    let node = graph.limits.each k (line_inside graph c.lines-line-items.ensures c.loop-line-test.true) in
    gathered_more c.loop-line.invariant _ _ _ (ap head e) (ap tail e) (ap least e)
    (omega (arith, ap head e, node.head, c.loop-line.auto.entered, c.fill.auto.self, c.requires.entered))
    (omega (arith, ap tail e, node.tail, c.loop-line.auto.left, c.fill-2.auto.self, c.requires.left)) _ _ c.add.ensures c.add-in-loop-line.ensures
