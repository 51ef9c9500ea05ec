use Rattle.std.proofs.Common.{◌^◌, arith}
use Rattle.std.proofs.lemmas.Nat.{pow_pos, le-div, div_below}
use Rattle.std.proofs.lemmas.Bool.Decides.{nat_tests}
use Rattle.series.proofs.load.exceeds.Goals as goal

-- a shifted mask is 0 exactly if the mask has no bit from there on
pub returns-then-m-lt64 : goal.returns-then-m-lt64
returns-then-m-lt64 c =
    let m = c.args.m in
    grind (arith, nat_tests, pow_pos m, le-div 1 c.args.mask (2 ^ m), div_below c.args.mask (2 ^ m) 1)
