-- The flow of a numbering, and the numbering of a flow.
use Rattle.std.specs.Prelude.{ℕ, zero, suc, ◌+◌, Bool, cond, List, map, Some, None, Option, ◌==◌, nat_lt}
use Rattle.std.specs.List.{range_with_len}
use Rattle.network.specs.Flow.{at}
use Rattle.network.specs.Key.{Key}
use Rattle.network.specs.declared.role.Role.{Role}
use Rattle.network.specs.declared.role.Role.TheVariants.{Standing, Pair, Count, Other}
use Rattle.series.specs.Job.{Job, line_count}
use Rattle.series.specs.Key.{role_at}
use Rattle.series.specs.Numbering.{byte_at, unsigned, uses, signed}
use Rattle.solutions.specs.Solution.{set_of}

-- What a numbering carries over a line, by what the line stands for: 1 to each signed part and over the pair of a part and its
-- sign, over a sign's line as much as it is used, and over the last line as many as are signed.
abbrev pub carried : List ℕ → Role → ℕ
carried bytes (Standing p) = cond (set_of bytes p) 1 0
carried bytes (Pair p s) = cond (byte_at bytes p == s) 1 0
carried bytes (Count s) = uses bytes s
carried bytes Other = signed bytes

-- the flow of a numbering in the network of the whole job
abbrev pub flow_of : Job → List ℕ → List ℕ
flow_of job bytes = map (λ k. carried bytes (role_at job k)) (range_with_len 0 (line_count job + 1))

-- the lowest number below m that passes a test, or else `none`
abbrev pub lowest_of : ℕ → (ℕ → Bool) → ℕ → ℕ
lowest_of zero test none = none
lowest_of (suc m) test none = lowest_of m test (cond (test m) m none)

-- what a flow carries over the line that is told; where there is no line, nothing
abbrev pub over_line : List ℕ → Option ℕ → ℕ
over_line flow (Some k) = at flow k
over_line flow None = 0

-- the byte of a part: the lowest sign whose pair line carries more than 0, or else unsigned
abbrev pub byte_of : Key → List ℕ → ℕ → ℕ
byte_of key flow p = lowest_of key.signs (λ s. nat_lt 0 (over_line flow (key.pair_line p s))) unsigned

-- the numbering of a flow, for any legend
abbrev pub numbering_of : Key → List ℕ → List ℕ
numbering_of key flow = map (byte_of key flow) (range_with_len 0 key.parts)
