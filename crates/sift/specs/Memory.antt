-- Lent memory: what it holds, and that it is the same memory.
use Rattle.std.specs.Prelude.{◌≡◌}
use Rattle.sift.specs.declared.memory.Memory.{Memory}
use Rattle.sift.specs.Workspace.{Workspace, SameLengths}

-- what the six hold
abbrev pub contents : Memory → Workspace
contents m =
    record {
      flow = m.flow.now;
      verdicts = m.verdicts.now;
      bottleneck = m.bottleneck.now;
      marks = m.marks.now;
      nodes = m.nodes.now;
      steps = m.steps.now;
    }

-- each of the six is the caller's still, so that the caller has back what it holds, and as long as it was
pub record SameLoan (before after : Memory) : Type 0 where
  pub flow : after.flow.ghost_name ≡ before.flow.ghost_name
  pub verdicts : after.verdicts.ghost_name ≡ before.verdicts.ghost_name
  pub bottleneck : after.bottleneck.ghost_name ≡ before.bottleneck.ghost_name
  pub marks : after.marks.ghost_name ≡ before.marks.ghost_name
  pub nodes : after.nodes.ghost_name ≡ before.nodes.ghost_name
  pub steps : after.steps.ghost_name ≡ before.steps.ghost_name
  pub lengths : SameLengths (contents before) (contents after)
