-- The places of a job's lines: those of the parts, of the pairs, and of the signs, then the last.
use Rattle.std.proofs.Common.{◌≡◌, ℕ, ◌+◌, ◌-◌, ◌*◌, ◌/◌, ◌%◌, ◌<◌, ◌≤◌, cond, ltb, subst, ⊎_elim, arith}
use Rattle.std.proofs.lemmas.Nat.{mul-add-lt, div-mul-add, mod-mul-add, div-add-mod', div_below, mod_below}
use Rattle.std.proofs.lemmas.Bool.{lt-ltb, le-ltb, cases_lt}
use Rattle.series.specs.Job.{Job, part_count, sign_count, pairs_from, signs_from, line_count}
use Rattle.series.specs.Key.{pair_place}
use Rattle.series.specs.Limits.{factor_pos}

module _ (job : Job) where
  -- a pair stands among the pairs
  pub pair_inside : (p s : ℕ) → p < part_count job → s < sign_count job → pair_place job p s < signs_from job
  pair_inside p s h k = omega (arith, mul-add-lt p (sign_count job) s (part_count job) h k)

  -- what is defined by cases of the three regions, at a place of each
  module _ {X : Type 0} (a : ℕ → X) (b : ℕ → ℕ → X) (c : ℕ → X) where
    abbrev pub by_region : ℕ → X
    by_region k =
        cond (ltb k (pairs_from job)) (a k) (cond (ltb k (signs_from job)) (b ((k - pairs_from job) / sign_count job) ((k - pairs_from job) % sign_count job)) (c k))

    pub at_part : (p : ℕ) → p < part_count job → by_region p ≡ a p
    at_part p h = rw (lt-ltb p (pairs_from job) h)

    pub at_pair : (p s : ℕ) → p < part_count job → s < sign_count job → by_region (pair_place job p s) ≡ b p s
    at_pair p s h k =
        let inside = pair_inside p s h k in
        let there : pair_place job p s - pairs_from job ≡ p * sign_count job + s = omega arith in
        rw (le-ltb (pair_place job p s) (pairs_from job) (omega arith), lt-ltb (pair_place job p s) (signs_from job) inside, there, div-mul-add p (sign_count job) s k, mod-mul-add p (sign_count job) s k)

    pub at_rest : (k : ℕ) → signs_from job ≤ k → by_region k ≡ c k
    at_rest k h = rw (le-ltb k (pairs_from job) (omega arith), le-ltb k (signs_from job) h)

  -- what holds at the places of each region holds at all
  pub each_place : (P : ℕ → Type 0) → ((p : ℕ) → p < part_count job → P p) → ((p s : ℕ) → p < part_count job → s < sign_count job → P (pair_place job p s)) → ((s : ℕ) → s < sign_count job → P (signs_from job + s)) → P (line_count job) → (k : ℕ) → k < line_count job + 1 → P k
  each_place P parts pairs signs last k h =
      ⊎_elim (λ (in_parts : k < part_count job). parts k in_parts) (λ (past-parts : part_count job ≤ k).
      ⊎_elim (λ (in_pairs : k < signs_from job).
      let inside : k - part_count job < part_count job * sign_count job = omega arith in
      let some : 0 < sign_count job = factor_pos (part_count job) (sign_count job) (omega arith) in
      let row = div_below _ _ _ some inside in
      let column = mod_below (k - part_count job) _ some in
      let whole = div-add-mod' (k - part_count job) (sign_count job) in
      let here : pair_place job ((k - part_count job) / sign_count job) ((k - part_count job) % sign_count job) ≡ k = omega arith in
      subst P here (pairs _ _ row column)) (λ (past_pairs : signs_from job ≤ k).
      ⊎_elim (λ (in-signs : k < line_count job).
      let here : signs_from job + (k - signs_from job) ≡ k = omega arith in
      subst P here (signs (k - signs_from job) (omega arith))) (λ (past-signs : line_count job ≤ k).
      let here : line_count job ≡ k = omega arith in
      subst P here last) (cases_lt k (line_count job))) (cases_lt k (signs_from job))) (cases_lt k (part_count job))
