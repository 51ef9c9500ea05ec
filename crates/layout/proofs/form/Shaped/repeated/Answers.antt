use Rattle.std.proofs.Common.{arith, rules, tests}
use Rattle.std.proofs.lemmas.Iterator.{cases_from_any, YieldsList-from_range}
use Rattle.layout.proofs.Forms.{Repeats, text_told}
use Rattle.layout.proofs.form.Shaped.repeated.Goals as goal

pub returns : goal.returns
returns c =
    let file = c.args.self.now.file.now in
    let n = c.args.self.now.shape.parts in
    let s = c.args.s in
    text_told file n s c.any.result (cases_from_any _ _ _ (Repeats file n s) (λ t. Repeats file n s t → ⊥) c.any.ensures.ran (YieldsList-from_range 0 s s (cc) (omega arith)) (λ t q k. search (rules, tests)) (λ t q k. search (rules, tests)))
