use Rattle.std.proofs.Common.{ℕ, ◌≤◌, below_more}
use Rattle.layout.specs.Form.{GoodBlock}
use Rattle.layout.proofs.form.Shaped.check_blocks.Goals as goal

pub loop-b-preserved : goal.loop-b-preserved
loop-b-preserved c =
    let Good : ℕ → Type 0 = λ b. c.args.from ≤ b → GoodBlock c.args.self.now.file.now c.args.self.now.shape.parts c.args.self.now.shape.signs b in
    λ b l h. below_more Good c.loop-b.b (λ k u f. c.loop-b.invariant k f u) (λ _. c.in_ok-check_block.ensures) b h l
