use Rattle.std.proofs.Common.{ap, subst, arith}
use Rattle.network.specs.Flow.{at, Lawful}
use Rattle.flows.specs.Bounds.{Mending}
use Rattle.flows.proofs.Mend.{mended}
use Rattle.index.specs.Graph.{net}
use Rattle.index.specs.declared.graph.Graph.{Graph}
use Rattle.reach.specs.Levels.{Levelled}
use Rattle.circulation.proofs.Stuck.{unreached_bottleneck, shown}
use Rattle.circulation.proofs.circulate.mend.Goals as goal

pub returns-in-None : goal.returns-in-None
returns-in-None c =
    let repair = c.loop-graph.repair in
    let same = c.loop-graph.invariant.graph in
    let nodes = ap (λ (g : Graph). g.nodes) same in
    let mending = subst (λ (g : Graph). Mending (net g) repair.flow.now (at repair.spare.now) (at repair.lack.now)) same repair.mending in
    let levels = subst (λ (g : Graph). Levelled (net g) (at repair.flow.now) (at repair.lack.now) c.level.new.distance) same c.level.ensures in
    let some = c.loop-graph-test.ensures in
    let out = c.in-None.ensures some.node some.inside some.much in
    record {
      lent = c.loop-graph.invariant.flow;
      right =
          shown _ _ _ c.show_unreached.ensures.marks (omega (arith, c.show_unreached.auto.bytes, c.loop-graph.auto.bottleneck, c.requires.bottleneck))
          (unreached_bottleneck _ _ _ c.show_unreached.ensures.marks c.args.repair.now.graph.limits _ _ _ mending levels some.node (omega (arith, some.inside)) some.much (omega arith))
          _ _ c.show_unreached.ensures.demand c.show_unreached.ensures.supply;
    }

pub returns : goal.returns
returns c =
    let repair = c.loop-graph.repair in
    record {
      lent = c.loop-graph.invariant.flow;
      right =
          subst (λ (g : Graph). Lawful (net g) repair.flow.now) c.loop-graph.invariant.graph
          (mended _ repair.graph.limits _ _ _ repair.mending c.loop-graph-test.ensures);
    }
