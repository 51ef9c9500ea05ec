use Rattle.layout.specs.Form.{GoodBlocks}
use Rattle.layout.proofs.form.Shaped.check_blocks.Given as goal

abbrev pub invariant-loop-b : goal.invariant-loop-b
invariant-loop-b l = GoodBlocks l.self.file.now l.self.shape.parts l.self.shape.signs l.from l.b
