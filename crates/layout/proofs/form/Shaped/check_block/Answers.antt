use Rattle.std.proofs.Common.{sym, refl, subst, arith, below_more}
use Rattle.std.proofs.lemmas.Bool.{both_ways}
use Rattle.layout.specs.Form.{RecordForm, Faulty}
use Rattle.layout.proofs.Forms.{first_faulty}
use Rattle.layout.proofs.form.Shaped.check_block.Goals as goal

pub returns-then-not-is_good : goal.returns-then-not-is_good
returns-then-not-is_good c =
    let shape = c.args.self.now.shape in
    let form = c.in_ok-count.ensures in
    subst (Faulty c.args.self.now.file.now shape.parts shape.signs c.args.b) (sym c.record_fault.ensures) (first_faulty c.args.self.now.file.now shape.parts shape.signs c.args.b c.loop-r.r form.0 (omega (arith, form.1)) c.loop-r.invariant (λ good. both_ways c.is_good.result c.if-not-is_good.true (c.is_good.ensures.1 good)))

pub loop-r-preserved : goal.loop-r-preserved
loop-r-preserved c = below_more (RecordForm c.args.self.now.file.now c.args.self.now.shape.parts c.args.self.now.shape.signs c.args.b) c.loop-r.r c.loop-r.invariant (c.if-not-is_good.ensures.0 refl)
