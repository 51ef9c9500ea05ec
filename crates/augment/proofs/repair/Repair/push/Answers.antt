use Rattle.std.proofs.Common.{refl, ◌∙◌, arith}
use Rattle.augment.proofs.Pushing.{trail_inside, trail_some, push_trail, push_mends, push_falls}
use Rattle.augment.proofs.repair.Repair.push.Goals as goal

pub narrowest-amount-requires : goal.narrowest-amount-requires
narrowest-amount-requires c = trail_inside _ _ _ _ _ _ c.requires.trail

pub transfer-requires : goal.transfer-requires
transfer-requires c =
    let self = c.args.self.now in
    let narrow = c.narrowest-amount.ensures in
    record {
      walk =
          record {
            net = _;
            limits = self.graph.limits;
            long = self.mending.long;
            from = _;
            to = _;
            trail = push_trail _ _ _ _ _ _ _ _ _ self.mending c.requires.trail narrow.rooms;
          };
      from = omega (arith, c.requires.from, self.spares);
      to = omega (arith, c.requires.to, self.lacks);
      spare = omega (arith, narrow.most, c.min-limit.ensures);
      lack = omega (arith, narrow.most, c.min-limit.ensures);
    }

pub invariant_of-self : goal.invariant_of-self
invariant_of-self c =
    let self = c.args.self.now in
    let narrow = c.narrowest-amount.ensures in
    record {
      mending =
          push_mends _ _ _ _ _ _ _ _ _ self.mending c.requires.trail narrow.rooms
          (omega (arith, c.requires.from, self.spares)) (omega (arith, c.requires.to, self.lacks))
          (omega (arith, narrow.most, c.min-limit.ensures)) (omega (arith, narrow.most, c.min-limit.ensures))
          c.transfer.ensures.flow c.transfer.ensures.spare c.transfer.ensures.lack;
      spares = c.transfer.auto.spare ∙ self.spares;
      lacks = c.transfer.auto.lack ∙ self.lacks;
    }

pub returns : goal.returns
returns c =
    let self = c.args.self.now in
    let narrow = c.narrowest-amount.ensures in
    record {
      memory = record { graph = refl; flow = refl; spare = refl; lack = refl };
      pushed =
          push_falls _ _ _ _ c.requires.from self.spares (omega (arith, narrow.most, c.min-limit.ensures))
          (narrow.some (omega (arith, c.min-limit.ensures, c.requires.much, c.requires.little)) (trail_some _ _ _ _ _ _ c.requires.trail))
          c.transfer.ensures.spare;
    }
