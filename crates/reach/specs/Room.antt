-- How much more a step can carry (the field's word: residual capacity).
use Rattle.std.specs.Prelude.{ℕ, ◌-◌, cond, ◌==◌}
use Rattle.network.specs.Net.{Net, line, least, most}
use Rattle.flows.specs.Steps.{Step as FlowStep}
use Rattle.index.specs.declared.step.Step.{Step}

-- a step of the index, as the theory of flows has it
abbrev pub step_of : Step → FlowStep
step_of s = (s.line, s.direction)

-- the step over the same line the other way
abbrev pub reversed : Step → Step
reversed s = record { line = s.line; direction = 1 - s.direction }

-- what is left of the line's bounds in the direction of the step
abbrev pub room_of : Net → (ℕ → ℕ) → Step → ℕ
room_of g f s =
    cond (s.direction == 0) (most (line g s.line) - f s.line) (f s.line - least (line g s.line))
