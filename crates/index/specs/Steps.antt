-- Steps over the lines of a network.
use Rattle.std.specs.Prelude.{ℕ, cond, ◌==◌}
use Rattle.network.specs.Net.{Net, line, tail, head}
use Rattle.index.specs.declared.step.Step.{Step}

-- the step along a line, from its tail to its head, and the one against it
abbrev pub along : ℕ → Step
along l = record { line = l; direction = 0 }

abbrev pub against : ℕ → Step
against l = record { line = l; direction = 1 }

-- the node that a step leaves, and the one that it comes to; they ask nothing of a network but its lines
abbrev pub origin : Net → Step → ℕ
origin g s = cond (s.direction == 0) (tail (line g s.line)) (head (line g s.line))

abbrev pub target : Net → Step → ℕ
target g s = cond (s.direction == 0) (head (line g s.line)) (tail (line g s.line))
