use Rattle.std.proofs.Common.{sym, ◌∙◌, rules}
use Rattle.std.proofs.lemmas.Iterator.{YieldsList-from_slice}
use Rattle.std.proofs.lemmas.Iterator.Consumers.{fold_from_yields_List}
use Rattle.layers.specs.Narrow.{narrow}
use Rattle.layers.proofs.Marks.{unmarked_same}
use Rattle.layers.proofs.column.Column.bounds.Goals as goal

pub returns-then-not-may_name : goal.returns-then-not-may_name
returns-then-not-may_name c =
    let column = c.args.self.now in
    unmarked_same column.named c.args.place (sym c.may_name.ensures ∙ c.if-not-may_name.true) c.args.bounds column.entries.items column.marked

pub returns : goal.returns
returns c =
    fold_from_yields_List _ (narrow c.args.place) c.args.bounds c.fold.result c.fold.ensures.ran (YieldsList-from_slice c.args.self.now.entries.items cc) (λ a x b q k. search rules)
