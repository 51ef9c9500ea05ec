use Rattle.std.proofs.Common.{ℕ, ◌+◌, ap, ◌∙◌, arith}
use Rattle.blocks.specs.Block.{block_of, record_of}
use Rattle.jobfile.proofs.ActLists.{act_told}
use Rattle.jobfile.proofs.file.JobFile.act.Goals as goal

pub returns-then-left-count : goal.returns-then-left-count
returns-then-left-count c = λ formed.
    let file = c.args.self.now.file.now in
    let a = c.loop-a.a in
    let left = c.loop-a.left in
    let is = c.record_of.ensures ∙ ap (λ (start : ℕ). record_of (block_of file (start + a)) left) c.acts_start.ensures.is in
    act_told file a left c.args.k c.record_of.result.now c.act_of.result formed (omega arith) (omega (arith, c.acts_in-count.ensures.is)) c.loop-a.invariant is c.act_of.ensures
