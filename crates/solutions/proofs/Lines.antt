-- The lines of the network of a whole job, and what they stand for, by region.
use Rattle.std.proofs.Common.{◌≡◌, ℕ, ◌+◌, ◌-◌, ◌*◌, ◌<◌, [], ◌∷◌, ap, ◌∙◌, arith}
use Rattle.std.proofs.lemmas.List.FromFn.{get_or-map-range_with_len}
use Rattle.std.proofs.lemmas.List.{length_push, get_or_append_left, get_or_push}
use Rattle.std.proofs.lemmas.Nat.{div-mul-add, mod-mul-add}
use Rattle.std.proofs.lemmas.Bool.Decides.{nat_tests}
use Rattle.network.specs.Net.{size, line, no_line}
use Rattle.network.specs.declared.role.Role.TheVariants.{Standing, Pair, Count, Other}
use Rattle.series.specs.Job.{Job, part_count, sign_count, pairs_from, signs_from, line_count, standing_line, pair_line, count_line, total_line, line_at, job_net, whole_net}
use Rattle.series.specs.Key.{pair_place, role_at}
use Rattle.series.specs.Counts.{size_is}
use Rattle.solutions.proofs.Regions.{pair_inside}

module _ (job : Job) where
  -- a place counted from where its region begins
  sign_there : (s : ℕ) → signs_from job + s - signs_from job ≡ s
  sign_there s = omega arith

  pair_there : (p s : ℕ) → pair_place job p s - pairs_from job ≡ p * sign_count job + s
  pair_there p s = omega arith

  pub role_part : (p : ℕ) → p < part_count job → role_at job p ≡ Standing p
  role_part p h = grind (arith, nat_tests)

  pub role_pair : (p s : ℕ) → p < part_count job → s < sign_count job → role_at job (pair_place job p s) ≡ Pair p s
  role_pair p s h k =
      grind (arith, nat_tests, pair_there p s, pair_inside job p s h k, div-mul-add p (sign_count job) s k, mod-mul-add p (sign_count job) s k)

  pub role_sign : (s : ℕ) → s < sign_count job → role_at job (signs_from job + s) ≡ Count s
  role_sign s h = grind (arith, nat_tests, sign_there s)

  pub role_last : role_at job (line_count job) ≡ Other
  role_last = grind (arith, nat_tests)

  module _ (lo hi : ℕ) where
    pub size_whole : size (whole_net job lo hi) ≡ line_count job + 1
    size_whole = length_push (job_net job).lines (total_line job lo hi) ∙ ap (λ n. n + 1) (size_is job)

    line_inside : (k : ℕ) → k < line_count job → line (whole_net job lo hi) k ≡ line_at job k
    line_inside k h =
        get_or_append_left (job_net job).lines (total_line job lo hi ∷ []) no_line k (omega (arith, size_is job))
        ∙ get_or-map-range_with_len (line_at job) 0 (line_count job) k k no_line h (omega arith)

    pub line_part : (p : ℕ) → p < part_count job → line (whole_net job lo hi) p ≡ standing_line job p
    line_part p h = grind (arith, nat_tests, line_inside p)

    pub line_pair : (p s : ℕ) → p < part_count job → s < sign_count job → line (whole_net job lo hi) (pair_place job p s) ≡ pair_line job p s
    line_pair p s h k =
        grind (arith, nat_tests, line_inside (pair_place job p s), pair_there p s, pair_inside job p s h k, div-mul-add p (sign_count job) s k, mod-mul-add p (sign_count job) s k)

    pub line_sign : (s : ℕ) → s < sign_count job → line (whole_net job lo hi) (signs_from job + s) ≡ count_line job s
    line_sign s h = grind (arith, nat_tests, line_inside (signs_from job + s), sign_there s)

    pub line_last : line (whole_net job lo hi) (line_count job) ≡ total_line job lo hi
    line_last = get_or_push (job_net job).lines (total_line job lo hi) no_line (line_count job) (size_is job)
