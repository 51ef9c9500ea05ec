use Rattle.std.proofs.Common.{◌-◌, ◌==◌, rules, tests}
use Rattle.std.proofs.lemmas.Iterator.{YieldsList-from_slice}
use Rattle.std.proofs.lemmas.Iterator.Search.{all_from_yields_List}
use Rattle.blocks.specs.Bytes.{part_at}
use Rattle.blocks.proofs.Parts.{zeros_told}
use Rattle.blocks.proofs.bytes.zeros.Goals as goal

pub returns : goal.returns
returns c =
    let rest = part_at (c.args.to - c.args.from) c.args.bytes.now c.args.from in
    zeros_told c.args.from c.args.to c.args.bytes.now c.all.result (all_from_yields_List (λ b. b == 0) _ _ c.all.result c.all.ensures.ran (YieldsList-from_slice rest cc) (λ x b q k. search (rules, tests)))
