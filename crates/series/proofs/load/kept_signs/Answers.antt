use Rattle.std.proofs.Common.{rules}
use Rattle.series.specs.Load.{KeepsSign}
use Rattle.series.proofs.Kept.{keeps_all_by, signs_kept}
use Rattle.series.proofs.load.kept_signs.Goals as goal

pub returns : goal.returns
returns c =
    signs_kept c.args.m c.args.given.now c.requires.0 c.keep_each.result (keeps_all_by _ KeepsSign (λ k r o h. search rules) _ _ c.keep_each.ensures)
