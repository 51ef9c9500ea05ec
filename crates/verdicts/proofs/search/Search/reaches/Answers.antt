use Rattle.verdicts.specs.Search.{found}
use Rattle.verdicts.proofs.Start.{none_found, answer_at_once, answer_of}
use Rattle.verdicts.proofs.search.Search.reaches.Goals as goal

pub returns-then-start-self-clause-answer : goal.returns-then-start-self-clause-answer
returns-then-start-self-clause-answer c =
    let none = none_found (found c.new-marked.result c.new-list.result) _ c.new-marked.ensures.written in
    answer_at_once none c.args.start c.find_node.ensures.adds _ _ _ c.args.self.now.sought c.if-start-self.true

pub returns-clause-answer : goal.returns-clause-answer
returns-clause-answer c =
    let none = none_found (found c.new-marked.result c.new-list.result) _ c.new-marked.ensures.written in
    let visit = c.visit_all.ensures in
    answer_of none c.args.start c.find_node.ensures.adds visit.grows c.args.self.now.sought c.visit_all.result visit.ends
