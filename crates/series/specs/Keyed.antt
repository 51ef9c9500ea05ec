-- The legend of a one-series job keeps the law of a legend: each part and each pair has exactly one line.
use Rattle.std.specs.Prelude.{◌≡◌, ℕ, ◌+◌, ◌-◌, ◌*◌, ◌<◌}
use Rattle.std.proofs.Common.{arith}
use Rattle.std.proofs.lemmas.Nat.{mul-add-lt, div-mul-add, mod-mul-add, div-add-mod'}
use Rattle.std.proofs.lemmas.Bool.Decides.{nat_tests}
use Rattle.network.specs.Key.{Keyed, Only}
use Rattle.network.specs.declared.role.Role.TheVariants.{Standing, Pair}
use Rattle.series.specs.Job.{Job, part_count, sign_count, pairs_from, job_net}
use Rattle.series.specs.Key.{role_at, pair_place, key_of}
use Rattle.series.specs.Limits.{Held}
use Rattle.series.specs.Counts.{size_is}

module _ (job : Job) (held : Held job) where
  standing_alone : (p j : ℕ) → role_at job j ≡ Standing p → j ≡ p
  standing_alone p j = grind (arith, nat_tests)

  part_only : (p : ℕ) → p < part_count job → Only (job_net job) (key_of job) (Standing p) p
  part_only p h = record { inside = rw size_is (omega arith); stands = grind (arith, nat_tests); alone = standing_alone p }

  -- a pair stands among the lines of the pairs
  pair_inside : (p s : ℕ) → p < part_count job → s < sign_count job → p * sign_count job + s < part_count job * sign_count job
  pair_inside p s h k = omega (arith, mul-add-lt p (sign_count job) s (part_count job) h k)

  pair_stands : (p s : ℕ) → p < part_count job → s < sign_count job → role_at job (pair_place job p s) ≡ Pair p s
  pair_stands p s h k =
      let there : pair_place job p s - pairs_from job ≡ p * sign_count job + s = omega arith in
      grind (arith, nat_tests, there, pair_inside p s h k, div-mul-add p (sign_count job) s k, mod-mul-add p (sign_count job) s k)

  pair_alone : (p s j : ℕ) → role_at job j ≡ Pair p s → j ≡ pair_place job p s
  pair_alone p s j = grind (arith, nat_tests, div-add-mod' (j - pairs_from job) (sign_count job))

  pair_only : (p s : ℕ) → p < part_count job → s < sign_count job → Only (job_net job) (key_of job) (Pair p s) (pair_place job p s)
  pair_only p s h k = record {
    inside = let inside = pair_inside p s h k in rw size_is (omega arith);
    stands = pair_stands p s h k;
    alone = pair_alone p s;
  }

  pub keyed : Keyed (job_net job) (key_of job)
  keyed = record {
    parts = omega (arith, held.parts);
    signs = omega (arith, held.signs);
    beyond = λ k h. let past = rw size_is at h in grind (arith, nat_tests);
    part = λ p h. grind (arith, nat_tests, part_only p h);
    no_part = λ p h. grind (arith, nat_tests);
    pair = λ p s h k. grind (arith, nat_tests, pair_only p s h k);
    no_pair = λ p s o. grind (arith, nat_tests);
  }
