-- One place more in a sum or a count, as a loop over the places adds it.
use Rattle.std.proofs.Common.{◌≡◌, ℕ, ◌+◌, Bool, true, false, cond, ◌∙◌, add-one, arith}
use Rattle.network.specs.Sum.{upto, count_upto}

pub upto_more : (n : ℕ) (f : ℕ → ℕ) → upto (n + 1) f ≡ upto n f + f n
upto_more n f = rw add-one

pub count_yes : (n : ℕ) (test : ℕ → Bool) → test n ≡ true → count_upto (n + 1) test ≡ count_upto n test + 1
count_yes n test e = upto_more n (λ k. cond (test k) 1 0) ∙ rw e

pub count_no : (n : ℕ) (test : ℕ → Bool) → test n ≡ false → count_upto (n + 1) test ≡ count_upto n test
count_no n test e = upto_more n (λ k. cond (test k) 1 0) ∙ rw e (omega arith)
