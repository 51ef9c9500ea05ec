use Rattle.std.proofs.Common.{◌<◌, arith}
use Rattle.network.specs.Net.{size}
use Rattle.network.proofs.Records.{size_is}
use Rattle.index.specs.Graph.{net}
use Rattle.verdicts.proofs.Judging.{way_round}
use Rattle.verdicts.proofs.Rows.{comes_from, comes_to}
use Rattle.verdicts.proofs.lines.comes_back.Goals as goal

pub returns-clause-changes : goal.returns-clause-changes
returns-clause-changes c =
    let g = c.args.graph.now in
    let inside : c.args.step.line < size (net g) = omega (arith, c.requires.line, size_is g.nodes g.lines.now) in
    let from = comes_from g c.lines-lines.ensures c.args.step c.origin-origin.ensures in
    let to = comes_to g c.lines-lines.ensures c.args.step c.target-target.ensures in
    way_round (net g) g.limits c.args.flow.now c.requires.lawful c.args.step inside c.requires.room c.reaches.result
    (rw (← from, ← to) c.reaches.ensures.answer)
