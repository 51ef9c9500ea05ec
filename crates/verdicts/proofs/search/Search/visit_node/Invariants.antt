use Rattle.index.specs.Graph.{net}
use Rattle.verdicts.proofs.Visit.{Underway}
use Rattle.verdicts.proofs.search.Search.visit_node.Given as goal

abbrev pub invariant-loop-step : goal.invariant-loop-step
invariant-loop-step l =
    Underway (net l.self.graph.now) l.self.flow.now l.self.avoid l.self.sought l.step-items l.step-index
    l.initial.marks l.initial.list l.marks l.list
