-- The line at a place follows from what it stands for.
use Rattle.std.proofs.Common.{◌≡◌, ℕ, Some, None, Option, arith}
use Rattle.std.specs.List.{slice_get}
use Rattle.std.proofs.lemmas.Bool.Decides.{nat_tests}
use Rattle.network.specs.Net.{Line}
use Rattle.network.specs.declared.role.Role.{Role}
use Rattle.network.specs.declared.role.Role.TheVariants.{Standing, Pair, Count, Other}
use Rattle.series.specs.Counts.{line_inside, line_beyond}
use Rattle.series.specs.Job.{Job, standing_line, pair_line, count_line, job_net}
use Rattle.series.specs.Key.{role_at}

-- the line that stands for a role
abbrev pub line_for : Job → Role → Option Line
line_for job (Standing p) = Some (standing_line job p)
line_for job (Pair p s) = Some (pair_line job p s)
line_for job (Count s) = Some (count_line job s)
line_for job Other = None

pub role_line : (job : Job) (k : ℕ) → slice_get (job_net job).lines k ≡ line_for job (role_at job k)
role_line job k = grind (arith, nat_tests, line_inside job k, line_beyond job k)
