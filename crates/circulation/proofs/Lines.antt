-- The lines of a network in memory, as they were read.
use Rattle.std.proofs.Common.{◌≡◌, ℕ, ◌<◌, List, length, get_or, sym, ap, ◌∙◌, arith}
use Rattle.network.specs.Net.{size, line}
use Rattle.network.specs.Records.{line_of}
use Rattle.network.specs.declared.line_record.LineRecord.{LineRecord}
use Rattle.network.proofs.Records.{line_is, size_is, no_record}
use Rattle.index.specs.Graph.{net}
use Rattle.index.specs.declared.graph.Graph.{Graph}

module _ (graph : Graph) {lines : List LineRecord} (same : lines ≡ graph.lines.now) where
  pub line_read : (k : ℕ) → line (net graph) k ≡ line_of (get_or lines k no_record)
  line_read k = line_is graph.nodes graph.lines.now k ∙ ap (λ ls. line_of (get_or ls k no_record)) (sym same)

  pub line_inside : {k : ℕ} → k < length lines → k < size (net graph)
  line_inside below = omega (arith, size_is graph.nodes graph.lines.now, ap length same)
