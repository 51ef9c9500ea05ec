use Rattle.std.proofs.Common.{refl, ap, ◌∙◌, arith}
use Rattle.index.specs.Steps.{target}
use Rattle.network.specs.Records.{net_of}
use Rattle.reach.specs.Levels.{level}
use Rattle.reach.proofs.Renamed.{renamed}
use Rattle.augment.specs.Walks.{Descending}
use Rattle.augment.proofs.Downhill.{descent_more, descent_less, descent_back, ascent_more, ascent_less}
use Rattle.augment.proofs.descent.Descent.walk_down.Goals as goal

pub loop-node-smaller-in-Some : goal.loop-node-smaller-in-Some
loop-node-smaller-in-Some c =
    let to = c.target-node.ensures ∙ ap (λ ls. target (net_of 0 ls) c.in-Some.step) c.lines.ensures in
    omega (
      arith,
      descent_less c.loop-node.invariant.way c.args.repair.now.mending.bounds c.loop-node.invariant.near c.in-Some.ensures,
      ap (level c.loop-node.self.distance.now) to,
    )

pub loop-node-preserved-in-Some : goal.loop-node-preserved-in-Some
loop-node-preserved-in-Some c =
    let to = c.target-node.ensures ∙ ap (λ ls. target (net_of 0 ls) c.in-Some.step) c.lines.ensures in
    record {
      levels = c.loop-node.invariant.levels;
      near = c.loop-node.invariant.near;
      way =
          renamed (Descending _ _ _ _ _ _ _) to c.append.ensures.cells c.append.ensures.count
          (descent_more c.loop-node.invariant.way c.args.repair.now.mending.bounds c.loop-node.invariant.near c.in-Some.ensures);
    }

pub retreat-requires : goal.retreat-requires
retreat-requires c some =
    let back = descent_back c.loop-node.invariant.way c.args.repair.now.mending.bounds c.loop-node.invariant.near c.in-None.ensures some in
    record { inside = back.inside; node = back.node; room = back.room }

pub loop-node-smaller : goal.loop-node-smaller
loop-node-smaller c =
    ascent_less c.loop-node.invariant.way c.args.repair.now.mending.bounds c.loop-node.invariant.near c.in-None.ensures c.loop-node-test.true
    c.in_ok-node-in-None.ensures.retraced

pub loop-node-preserved : goal.loop-node-preserved
loop-node-preserved c =
    record {
      levels = c.loop-node.invariant.levels;
      near = c.loop-node.invariant.near;
      way =
          renamed (Descending _ _ _ _ _ _ _) refl c.in_ok-node-in-None.ensures.cells c.in_ok-node-in-None.ensures.count
          (ascent_more c.loop-node.invariant.way c.args.repair.now.mending.bounds c.loop-node.invariant.near c.in-None.ensures c.loop-node-test.true
          c.in_ok-node-in-None.ensures.retraced);
    }
