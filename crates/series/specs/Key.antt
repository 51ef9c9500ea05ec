-- The legend of a one-series job: which line stands for which part, pair or sign.
use Rattle.std.specs.Prelude.{ℕ, ◌+◌, ◌-◌, ◌*◌, ◌/◌, ◌%◌, ◌<◌, cond, ◌&&◌, Some, None, nat_lt}
use Rattle.network.specs.Key.{Key}
use Rattle.network.specs.declared.role.Role.{Role}
use Rattle.network.specs.declared.role.Role.TheVariants.{Standing, Pair, Count, Other}
use Rattle.series.specs.Job.{Job, part_count, sign_count, line_count, pairs_from, signs_from}

-- what the line at a place stands for
abbrev pub role_at : Job → ℕ → Role
role_at job k =
    cond (nat_lt k (pairs_from job)) (Standing k) (cond (nat_lt k (signs_from job)) (Pair ((k - pairs_from job) / sign_count job) ((k - pairs_from job) % sign_count job)) (cond (nat_lt k (line_count job)) (Count (k - signs_from job)) Other))

-- the place of the line of part p and sign s
abbrev pub pair_place : Job → ℕ → ℕ → ℕ
pair_place job p s = pairs_from job + p * sign_count job + s

abbrev pub key_of : Job → Key
key_of job = record {
  parts = part_count job;
  signs = sign_count job;
  role = role_at job;
  part_line = λ p. cond (nat_lt p (part_count job)) (Some p) None;
  pair_line = λ p s. cond (nat_lt p (part_count job) && nat_lt s (sign_count job)) (Some (pair_place job p s)) None;
}

-- it stands for a part, a pair or a sign of the job, or for something else
abbrev pub InJob : Job → Role → Type 0
InJob job (Standing p) = p < part_count job
InJob job (Pair p s) = (p < part_count job) × (s < sign_count job)
InJob job (Count s) = s < sign_count job
InJob job Other = Unit {0}
