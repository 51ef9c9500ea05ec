use Rattle.std.proofs.Common.{length, ap, arith, length-take}
use Rattle.blocks.proofs.Weights.{weighted_none, weighted_next, term_small}
use Rattle.blocks.proofs.block.check.Goals as goal

pub loop-place-init : goal.loop-place-init
loop-place-init c = record {
  few = omega (arith, ap length c.part-byte-items.ensures, length-take 510 c.args.block.now);
  told = weighted_none c.args.block.now;
  small = omega arith;
}

pub loop-place-preserved : goal.loop-place-preserved
loop-place-preserved c =
    let next = weighted_next 510 c.loop-place.place _ c.args.block.now c.part-byte-items.ensures c.loop-place-test.true in
    record {
      few = c.loop-place.invariant.few;
      told = cc;
      small = omega (arith, term_small c.loop-place.place c.from.result (omega arith) (omega arith));
    }
