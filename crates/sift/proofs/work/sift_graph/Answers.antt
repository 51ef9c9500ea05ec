use Rattle.std.proofs.Common.{◌≡◌, length, Err, sym, ap, ◌∙◌, subst, arith}
use Rattle.network.specs.Net.{size}
use Rattle.index.specs.Graph.{net}
use Rattle.circulation.specs.Answers.{Shows}
use Rattle.sift.specs.Memory.{contents}
use Rattle.sift.specs.Sifted.{Done}
use Rattle.sift.specs.Workspace.{no_step}
use Rattle.sift.proofs.Exact.{resized, refused_exact, cleared_exact}
use Rattle.sift.proofs.work.sift_graph.Goals as goal

pub returns-in-Err-clause-done : goal.returns-in-Err-clause-done
returns-in-Err-clause-done c =
    let graph = c.args.graph.now in
    let g = net graph in
    let exact = c.requires.exact in
    let after = contents c.show_none.new.memory in
    let found = c.in-Err.bottleneck in
    let kept = c.show_none.ensures.bottleneck in
    let shown = subst (λ xs. Shows g xs found.demand found.supply) (sym kept) c.in-Err.ensures in
    let long : length after.bottleneck ≡ g.nodes = ap length kept ∙ c.circulate.auto.bottleneck ∙ exact.bottleneck in
    let blank = c.show_none.ensures.blank in
    subst (λ r. Done g after (Err r)) (sym c.from.ensures) (
      refused_exact g graph.limits after _ _ long (λ v l. shown.binary v (omega (arith, long))) shown.bottleneck shown.demand shown.supply (blank.flow ∙ resized 0 _ (size g) (omega (arith, exact.flow))) (blank.verdicts ∙ resized 0 _ (size g) (omega (arith, exact.verdicts))),
      cleared_exact g after (blank.marks ∙ resized 0 _ g.nodes (omega (arith, exact.marks))) (blank.nodes ∙ resized 0 _ g.nodes (omega (arith, exact.nodes))) (blank.steps ∙ resized no_step _ g.nodes (omega (arith, exact.steps))),
    )
