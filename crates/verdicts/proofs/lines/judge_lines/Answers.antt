use Rattle.std.proofs.Common.{sym, ◌∙◌, subst, arith}
use Rattle.index.specs.Graph.{net}
use Rattle.verdicts.specs.Verdicts.{Verdict}
use Rattle.verdicts.proofs.Judging.{told_more}
use Rattle.verdicts.proofs.lines.judge_lines.Goals as goal

pub loop-place-preserved : goal.loop-place-preserved
loop-place-preserved c =
    let judged = c.loop-place.invariant in
    let line = c.judge_line.ensures in
    let g = net c.args.graph.now in
    record {
      marks = line.lent ∙ judged.marks;
      nodes = line.nodes ∙ judged.nodes;
      told =
          told_more g c.args.flow.now c.loop-place.verdicts c.loop-place.place c.from.result (omega arith)
          (subst (Verdict g c.args.flow.now c.loop-place.place) (sym c.from.ensures) line.verdict) judged.told;
    }
