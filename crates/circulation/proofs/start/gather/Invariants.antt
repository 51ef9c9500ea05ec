use Rattle.index.specs.Graph.{net}
use Rattle.circulation.specs.Gathering.{Gathered}
use Rattle.circulation.proofs.start.gather.Given as goal

abbrev pub invariant-loop-line : goal.invariant-loop-line
invariant-loop-line l = Gathered (net l.graph) l.line-index l.entered l.left
