use Rattle.std.proofs.Common.{◌<◌, sym, subst, arith}
use Rattle.network.specs.Net.{size}
use Rattle.index.specs.Graph.{net}
use Rattle.index.specs.declared.step.Step.{Step}
use Rattle.index.proofs.Found.{indexed}
use Rattle.augment.proofs.walk.seek.Goals as goal

pub leads_down-requires-clause-inside : goal.leads_down-requires-clause-inside
leads_down-requires-clause-inside c =
    let graph = c.args.repair.now.graph in
    let leaves = (indexed graph).sound c.args.node c.loop-k.k c.requires.node (omega (arith, c.requires.low, c.loop-k.auto.k)) (omega (arith, c.loop-k-test.true, c.row_start-end.ensures)) in
    subst (λ (s : Step). s.line < size (net graph)) (sym c.step.ensures) leaves.inside
