use Rattle.index.specs.Steps.{along}
use Rattle.reach.proofs.Read.{read_element}
use Rattle.augment.proofs.Pushing.{carry_inside, carry_more, carry_less, carry_next}
use Rattle.augment.proofs.push.push_along.Goals as goal

pub carry-requires : goal.carry-requires
carry-requires c =
    let read = read_element _ _ c.loop-step.step-index (along 0) c.args.walk.now.fits _ c.elements-step-items.ensures c.loop-step-test.true in
    record {
      inside = carry_inside c.requires c.loop-step.invariant read;
      more = carry_more c.requires c.loop-step.invariant read;
      less = carry_less c.requires c.loop-step.invariant read;
    }

pub loop-step-preserved : goal.loop-step-preserved
loop-step-preserved c =
    let read = read_element _ _ c.loop-step.step-index (along 0) c.args.walk.now.fits _ c.elements-step-items.ensures c.loop-step-test.true in
    carry_next c.requires c.loop-step.invariant read c.carry.ensures
