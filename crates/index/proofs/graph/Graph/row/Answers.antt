use Rattle.std.proofs.Common.{arith}
use Rattle.index.proofs.Found.{indexed, row_ascends, row_inside}
use Rattle.index.proofs.graph.Graph.row.Goals as goal

pub offset_bounds-self-row_start : goal.offset_bounds-self-row_start
offset_bounds-self-row_start c = let i = indexed c.args.self.now in omega (arith, c.row_start.ensures, row_ascends i _ c.requires, row_inside i _ c.requires)

pub slice_bounds-result-count : goal.slice_bounds-result-count
slice_bounds-result-count c = let i = indexed c.args.self.now in omega (arith, c.row_start.ensures, c.row_start-2.ensures, row_ascends i _ c.requires)

pub slice_bounds-result-start : goal.slice_bounds-result-start
slice_bounds-result-start c = let i = indexed c.args.self.now in omega (arith, c.row_start.ensures, row_ascends i _ c.requires, row_inside i _ c.requires)

pub slice_bounds-result-end : goal.slice_bounds-result-end
slice_bounds-result-end c = let i = indexed c.args.self.now in omega (arith, c.row_start-2.ensures, row_inside i _ c.requires)
