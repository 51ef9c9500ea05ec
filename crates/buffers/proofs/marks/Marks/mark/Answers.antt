use Rattle.std.proofs.Common.{rules}
use Rattle.std.proofs.lemmas.List.{drop-set-lt}
use Rattle.buffers.proofs.Blanks.{blanks_mark}
use Rattle.buffers.proofs.marks.Marks.mark.Goals as goal

pub returns-then-node-self : goal.returns-then-node-self
returns-then-node-self c = search (rules, drop-set-lt, blanks_mark)
