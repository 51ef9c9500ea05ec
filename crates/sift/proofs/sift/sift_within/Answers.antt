use Rattle.std.proofs.Common.{◌++◌, length, take, drop, replicate, sym, ◌∙◌, subst, arith}
use Rattle.std.proofs.lemmas.List.{take_all, take-append-le}
use Rattle.network.specs.Net.{Same}
use Rattle.network.specs.Records.{net_of}
use Rattle.sift.specs.Memory.{contents}
use Rattle.sift.specs.Sifted.{Done}
use Rattle.sift.proofs.Same.{done_same}
use Rattle.sift.proofs.sift.sift_within.Goals as goal

-- the lines that are lent on are those that were copied
pub returns-clause-done : goal.returns-clause-done
returns-clause-done g c =
    let m = g.N.Network.meaning c.args.network.now in
    let a = length c.args.memory.now.flow.now in
    let n = length c.args.memory.now.nodes.now in
    let copied = c.copy_lines.new.lines in
    let after = contents c.sift_graph.new.memory in
    let rest = drop a (replicate g.row.LINES c.default-lines.result) in
    let lines = take a (copied ++ rest) in
    let lent = take-append-le a copied rest (omega (arith, c.copy_lines.auto.lines)) ∙ take_all a copied (omega (arith, c.copy_lines.auto.lines)) in
    let done = subst (λ net. Done net after c.sift_graph.result) c.new-graph.ensures c.sift_graph.ensures.done in
    done_same (net_of m.nodes lines) m (subst (λ lines. Same (net_of m.nodes lines) m) (sym lent) c.copy_lines.ensures.same) after c.sift_graph.result (subst (λ k. Done (net_of k lines) after c.sift_graph.result) c.requires.exact.nodes done)
