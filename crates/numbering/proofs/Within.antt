-- The numbering of a flow looks at the lines of the job alone.
use Rattle.std.proofs.Common.{◌≡◌, ℕ, ◌+◌, ◌<◌, ◌&&◌, ltb, List, map, take, Some, None, refl, ap, arith, get_or-take}
use mathlib.Core.Path.{fun_ext}
use Rattle.std.specs.List.{range_with_len}
use Rattle.std.proofs.lemmas.Bool.{cond_both, and_parts, ltb-true}
use Rattle.series.specs.Job.{Job, part_count, sign_count, line_count}
use Rattle.series.specs.Key.{key_of, pair_place}
use Rattle.series.specs.Numbering.{unsigned}
use Rattle.solutions.specs.Carried.{lowest_of, over_line, numbering_of}
use Rattle.solutions.proofs.Regions.{pair_inside}

module _ (job : Job) (flow : List ℕ) where
  over_take : (p s : ℕ) → over_line (take (line_count job + 1) flow) ((key_of job).pair_line p s) ≡ over_line flow ((key_of job).pair_line p s)
  over_take p s =
      cond_both (ltb p (part_count job) && ltb s (sign_count job)) (Some (pair_place job p s)) None (λ o. over_line (take (line_count job + 1) flow) o ≡ over_line flow o) (λ e.
      let both = and_parts (ltb p (part_count job)) (ltb s (sign_count job)) e in
      let inside : pair_place job p s < line_count job + 1 = omega (arith, pair_inside job p s (ltb-true _ _ both.0) (ltb-true _ _ both.1)) in
      rw get_or-take) (λ _. refl)

  pub numbering_take : numbering_of (key_of job) (take (line_count job + 1) flow) ≡ numbering_of (key_of job) flow
  numbering_take =
      ap (λ (byte : ℕ → ℕ). map byte (range_with_len 0 (part_count job))) (fun_ext (λ p. ap (λ test. lowest_of (sign_count job) test unsigned) (fun_ext (λ s. ap (ltb 0) (over_take p s)))))
