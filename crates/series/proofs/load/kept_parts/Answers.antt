use Rattle.std.proofs.Common.{rules}
use Rattle.series.specs.Load.{KeepsPart}
use Rattle.series.proofs.Kept.{keeps_all_by, parts_kept}
use Rattle.series.proofs.load.kept_parts.Goals as goal

pub returns : goal.returns
returns c =
    parts_kept c.args.n c.args.m c.args.given.now c.requires.0 c.keep_each.result (keeps_all_by _ (KeepsPart c.args.m) (λ k r o h. search rules) _ _ c.keep_each.ensures)
