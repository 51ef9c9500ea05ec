use Rattle.std.proofs.Common.{◌≡◌, Bool, true, sym, refl, ◌∙◌, subst, inr}
use Rattle.index.specs.Graph.{net}
use Rattle.index.specs.declared.step.Step.{Step}
use Rattle.verdicts.specs.Verdicts.{CanChange}
use Rattle.verdicts.proofs.lines.judge_line.Goals as goal
use Rattle.verdicts.proofs.lines.judge_line.Goals.{then-can_change, else-can_change}

pub returns-then-can_change-2-clause-verdict : goal.returns-then-can_change-2-clause-verdict
returns-then-can_change-2-clause-verdict c =
    let Can : Step → Bool → Type 0 = CanChange (net c.args.graph.now) c.args.flow.now in
    elim c.if-can_change.branch [
      | then-can_change w ↦ inr (refl, subst (λ s. Can s true) c.along-more.ensures w.if-can_change.ensures.changes)
      | else-can_change w ↦
          let less = w.can_change-else-can_change in
          let yes : less.result ≡ true = sym w.value-is ∙ c.if-can_change-2.true in
          inr (refl, subst (λ s. Can s true) c.against-less.ensures (subst (Can c.against-less.result) yes less.ensures.changes))
    ]
