use Rattle.layout.specs.Form.{RecordsForm}
use Rattle.layout.proofs.form.Shaped.check_block.Given as goal

abbrev pub invariant-loop-r : goal.invariant-loop-r
invariant-loop-r l = RecordsForm l.self.file.now l.self.shape.parts l.self.shape.signs l.b l.r
