use Rattle.std.proofs.Common.{is_ok}
use Rattle.verdicts.specs.Search.{found}
use Rattle.verdicts.proofs.Found.{told_new}
use Rattle.verdicts.proofs.search.find_node.Goals as goal

pub returns-then-mark-clause-adds : goal.returns-then-mark-clause-adds
returns-then-mark-clause-adds c =
    let mark = c.mark.ensures in
    let push = c.push.ensures in
    told_new (found c.args.marks.now c.args.list.now) c.requires.listed c.args.node c.requires.node
    (found c.mark.new.self c.push.new.self) _ mark.count mark.written mark.fewer
    c.if-mark.true (is_ok c.push.result) push.room push.count push.written
