use Rattle.std.proofs.Common.{◌-◌}
use Rattle.index.specs.Graph.{net}
use Rattle.verdicts.proofs.Visits.{Underway}
use Rattle.verdicts.proofs.search.Search.visit_all.Given as goal

abbrev pub invariant-loop-node : goal.invariant-loop-node
invariant-loop-node l =
    Underway (net l.self.graph.now) l.self.flow.now l.self.avoid l.self.sought l.read l.initial.marks l.initial.list l.marks l.list

-- the nodes that are still to be read, at most
abbrev pub decreases-loop-node : goal.decreases-loop-node
decreases-loop-node l = l.initial.marks.count - l.read
