-- The memory that a sift is lent, and how much of it a network needs.
use Rattle.std.specs.Prelude.{◌≡◌, ℕ, ◌<◌, ◌⊎◌, List, length, take, drop, replicate}
use Rattle.index.specs.declared.step.Step.{Step}
use Rattle.network.specs.Net.{Net, size}

-- an amount and a verdict for each line; a byte in the bottleneck, a mark, a place in each list for each node
pub record Workspace : Type 0 where
  pub flow : List ℕ
  pub verdicts : List ℕ
  pub bottleneck : List ℕ
  pub marks : List ℕ
  pub nodes : List ℕ
  pub steps : List Step

-- the step that a cleared step list holds
abbrev pub no_step : Step
no_step = record { line = 0; direction = 0 }

-- one of the six is shorter than the network needs
abbrev pub Short : Net → Workspace → Type 0
Short g w =
    (length w.flow < size g) ⊎ ((length w.verdicts < size g) ⊎ ((length w.bottleneck < g.nodes) ⊎ ((length w.marks < g.nodes) ⊎ ((length w.nodes < g.nodes) ⊎ (length w.steps < g.nodes)))))

-- each of the six is as long as it was
pub record SameLengths (before after : Workspace) : Type 0 where
  pub flow : length after.flow ≡ length before.flow
  pub verdicts : length after.verdicts ≡ length before.verdicts
  pub bottleneck : length after.bottleneck ≡ length before.bottleneck
  pub marks : length after.marks ≡ length before.marks
  pub nodes : length after.nodes ≡ length before.nodes
  pub steps : length after.steps ≡ length before.steps

-- longer memory keeps its surplus
pub record SurplusKept (g : Net) (before after : Workspace) : Type 0 where
  pub flow : drop (size g) after.flow ≡ drop (size g) before.flow
  pub verdicts : drop (size g) after.verdicts ≡ drop (size g) before.verdicts
  pub bottleneck : drop g.nodes after.bottleneck ≡ drop g.nodes before.bottleneck
  pub marks : drop g.nodes after.marks ≡ drop g.nodes before.marks
  pub nodes : drop g.nodes after.nodes ≡ drop g.nodes before.nodes
  pub steps : drop g.nodes after.steps ≡ drop g.nodes before.steps

-- the marks and both lists are blank again
pub record Cleared (g : Net) (w : Workspace) : Type 0 where
  pub marks : take g.nodes w.marks ≡ replicate g.nodes 0
  pub nodes : take g.nodes w.nodes ≡ replicate g.nodes 0
  pub steps : take g.nodes w.steps ≡ replicate g.nodes no_step

-- each of the six is just as long as the network needs
pub record Exact (g : Net) (w : Workspace) : Type 0 where
  pub flow : length w.flow ≡ size g
  pub verdicts : length w.verdicts ≡ size g
  pub bottleneck : length w.bottleneck ≡ g.nodes
  pub marks : length w.marks ≡ g.nodes
  pub nodes : length w.nodes ≡ g.nodes
  pub steps : length w.steps ≡ g.nodes

-- all but the bottleneck is blank, at its length
pub record Blank (before after : Workspace) : Type 0 where
  pub flow : after.flow ≡ replicate (length before.flow) 0
  pub verdicts : after.verdicts ≡ replicate (length before.verdicts) 0
  pub marks : after.marks ≡ replicate (length before.marks) 0
  pub nodes : after.nodes ≡ replicate (length before.nodes) 0
  pub steps : after.steps ≡ replicate (length before.steps) no_step
