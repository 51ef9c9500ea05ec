use Rattle.std.proofs.Common.{◌≡◌}
use Rattle.network.specs.Net.{least, most}
use Rattle.network.specs.Flow.{entering, leaving}
use Rattle.index.specs.Graph.{net}
use Rattle.circulation.specs.Summed.{summed}
use Rattle.circulation.specs.Answers.{members}
use Rattle.circulation.proofs.cut.sum_bounds.Given as goal

abbrev pub invariant-loop-line : goal.invariant-loop-line
invariant-loop-line l =
    record {
      demand : l.demand ≡ summed (net l.graph) least (entering (members l.bytes)) l.line-index;
      supply : l.supply ≡ summed (net l.graph) most (leaving (members l.bytes)) l.line-index;
    }
