-- Workspaces that are equal part by part.
use Rattle.std.proofs.Common.{◌≡◌, ℕ, List, ap, ◌∙◌}
use Rattle.index.specs.declared.step.Step.{Step}
use Rattle.sift.specs.Workspace.{Workspace}

pub record SameParts (v w : Workspace) : Type 0 where
  pub flow : v.flow ≡ w.flow
  pub verdicts : v.verdicts ≡ w.verdicts
  pub bottleneck : v.bottleneck ≡ w.bottleneck
  pub marks : v.marks ≡ w.marks
  pub nodes : v.nodes ≡ w.nodes
  pub steps : v.steps ≡ w.steps

abbrev work : List ℕ → List ℕ → List ℕ → List ℕ → List ℕ → List Step → Workspace
work f v b m n s = record { flow = f; verdicts = v; bottleneck = b; marks = m; nodes = n; steps = s }

pub same_work : (v w : Workspace) → SameParts v w → v ≡ w
same_work v w e =
    ap (λ x. work x v.verdicts v.bottleneck v.marks v.nodes v.steps) e.flow
    ∙ ap (λ x. work w.flow x v.bottleneck v.marks v.nodes v.steps) e.verdicts
    ∙ ap (λ x. work w.flow w.verdicts x v.marks v.nodes v.steps) e.bottleneck
    ∙ ap (λ x. work w.flow w.verdicts w.bottleneck x v.nodes v.steps) e.marks
    ∙ ap (λ x. work w.flow w.verdicts w.bottleneck w.marks x v.steps) e.nodes
    ∙ ap (λ x. work w.flow w.verdicts w.bottleneck w.marks w.nodes x) e.steps
