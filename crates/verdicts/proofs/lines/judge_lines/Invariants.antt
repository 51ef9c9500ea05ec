use Rattle.index.specs.Graph.{net}
use Rattle.verdicts.proofs.Judging.{Judged}
use Rattle.verdicts.proofs.lines.judge_lines.Given as goal

abbrev pub invariant-loop-place : goal.invariant-loop-place
invariant-loop-place l = Judged (net l.graph) l.flow l.verdicts l.initial.lent l.lent l.place
