-- What a verdict on a line says of all lawful flows.
use Rattle.std.specs.Prelude.{◌≡◌, ℕ, ◌<◌, Bool, true, false, ◌⊎◌, List, slice_index, ◌==◌}
use Rattle.network.specs.Net.{Net, size}
use Rattle.network.specs.Flow.{at, Fixed, Free}
use Rattle.flows.specs.Bounds.{AtMost, AtLeast}
use Rattle.index.specs.declared.step.Step.{Step}

-- No lawful flow carries more than x over the line at place l; or none carries less.
abbrev pub Bound : Net → ℕ → ℕ → Bool → Type 0
Bound g l x true = AtMost g l x
Bound g l x false = AtLeast g l x

-- Whether a lawful flow can carry more over the line than this one does, for a step along it, or less, for one against it: if
-- so the line is free.
abbrev pub CanChange : Net → List ℕ → Step → Bool → Type 0
CanChange g f s true = Free g s.line (at f s.line)
CanChange g f s false = Bound g s.line (at f s.line) (s.direction == 0)

-- The verdict on the line at place i of a lawful flow: 1 if it is fixed at its amount, 0 if it is free from it.
abbrev pub Verdict : Net → List ℕ → ℕ → ℕ → Type 0
Verdict g f i verdict = ((verdict ≡ 1) × Fixed g i (at f i)) ⊎ ((verdict ≡ 0) × Free g i (at f i))

-- the verdicts on all lines
abbrev pub Verdicts : Net → List ℕ → List ℕ → Type 0
Verdicts g f verdicts = (i : ℕ) → i < size g → Verdict g f i (slice_index verdicts i)
