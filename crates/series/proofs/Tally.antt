-- Counting by place is counting by element, and a loop over the elements counts so far.
use Rattle.std.proofs.Common.{◌≡◌, ℕ, zero, suc, ◌+◌, ◌≤◌, Bool, true, false, cond, not, eqb, List, length, take, sym, refl, ap, ◌∙◌, add-one, arith}
use Rattle.std.specs.List.{count_by}
use Rattle.std.proofs.lemmas.List.{take_all}
use Rattle.std.proofs.lemmas.List.Sums.{sum_by_more}
use Rattle.network.specs.Sum.{count_upto}
use Rattle.network.proofs.Counting.{count_yes, count_no}
use Rattle.series.specs.Numbering.{byte_at, unsigned, uses, signed}

module _ (test : ℕ → Bool) (bytes : List ℕ) where
  counted_so_far : (i : ℕ) → i ≤ length bytes → count_upto i (λ p. test (byte_at bytes p)) ≡ count_by test (take i bytes)
  counted_so_far zero h = refl
  counted_so_far (suc i) h =
      let more = rw add-one at (sum_by_more (λ x. cond (test x) 1 0) bytes i 0 (omega arith)) in
      omega (arith, counted_so_far i (omega arith), more)

  counted : count_by test bytes ≡ count_upto (length bytes) (λ p. test (byte_at bytes p))
  counted = let all : length bytes ≤ length bytes = omega arith in sym (rw take_all at (counted_so_far (length bytes) all))

-- so the parts of a sign, and the signed parts, are counted
pub uses_counted : (bytes : List ℕ) (s : ℕ) → count_by (λ b. eqb b s) bytes ≡ uses bytes s
uses_counted bytes s = counted (λ b. eqb b s) bytes

pub signed_counted : (bytes : List ℕ) → count_by (λ b. not (eqb b unsigned)) bytes ≡ signed bytes
signed_counted bytes = counted (λ b. not (eqb b unsigned)) bytes

-- so many of the first i bytes pass
abbrev pub Counted : List ℕ → (ℕ → Bool) → ℕ → ℕ → Type 0
Counted bytes test i count = (count ≤ i) × (count ≡ count_upto i (λ p. test (byte_at bytes p)))

module _ (bytes : List ℕ) (test : ℕ → Bool) (i count : ℕ) (so_far : Counted bytes test i count) where
  pub one_more : (new : ℕ) → test (byte_at bytes i) ≡ true → new ≡ count + 1 → Counted bytes test (i + 1) new
  one_more new e n = (omega (arith, so_far.0), n ∙ ap (λ k. k + 1) so_far.1 ∙ sym (count_yes i (λ p. test (byte_at bytes p)) e))

  pub none_more : (new : ℕ) → test (byte_at bytes i) ≡ false → new ≡ count → Counted bytes test (i + 1) new
  none_more new e n = (omega (arith, so_far.0), n ∙ so_far.1 ∙ sym (count_no i (λ p. test (byte_at bytes p)) e))
