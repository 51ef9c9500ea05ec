-- Sums by place, cut in two and laid out in rows; sums of which a test picks one place, or all or none.
use Rattle.std.proofs.Common.{◌≡◌, ℕ, zero, suc, ◌+◌, ◌-◌, ◌*◌, ◌<◌, Bool, true, false, cond, ◌&&◌, eqb, ltb, leb, refl, ◌∙◌, add-zero, add-suc, suc-mul, zero-mul, arith}
use Rattle.std.proofs.lemmas.Bool.{cond-false, cond-true}
use Rattle.std.proofs.lemmas.Bool.Decides.{nat_tests}
use Rattle.network.specs.Sum.{upto}
use Rattle.flows.proofs.Sums.{upto_zero, upto_same, upto_only}

pub upto_append : (a b : ℕ) (f : ℕ → ℕ) → upto (a + b) f ≡ upto a f + upto b (λ i. f (a + i))
upto_append a zero f = rw (add-zero a) (omega arith)
upto_append a (suc b) f = rw add-suc (omega (arith, upto_append a b f))

-- n rows of m places each
pub upto_rows : (n m : ℕ) (f : ℕ → ℕ) → upto (n * m) f ≡ upto n (λ p. upto m (λ s. f (p * m + s)))
upto_rows zero m f = rw zero-mul
upto_rows (suc n) m f = rw suc-mul (omega (arith, upto_append (n * m) m f, upto_rows n m f))

-- the sum of the places that pass a test, where none does, all do, or one does
module _ (n : ℕ) (test : ℕ → Bool) (f : ℕ → ℕ) where
  pub picks_none : ((i : ℕ) → i < n → test i ≡ false) → upto n (λ i. cond (test i) (f i) 0) ≡ 0
  picks_none never = upto_zero n (λ i. cond (test i) (f i) 0) (λ i l. cond-false (test i) (f i) 0 (never i l))

  pub picks_all : ((i : ℕ) → i < n → test i ≡ true) → upto n (λ i. cond (test i) (f i) 0) ≡ upto n f
  picks_all always = upto_same n (λ i. cond (test i) (f i) 0) f (λ i l. cond-true (test i) (f i) 0 (always i l))

  pub picks_one : (k : ℕ) → k < n → test k ≡ true → ((i : ℕ) → i < n → (i ≡ k → ⊥) → test i ≡ false) → upto n (λ i. cond (test i) (f i) 0) ≡ f k
  picks_one k l here elsewhere =
      upto_only n k (λ i. cond (test i) (f i) 0) l (λ i m d. cond-false (test i) (f i) 0 (elsewhere i m d)) ∙ cond-true (test k) (f k) 0 here

-- the sum of the places that are v when counted from c
pub picks_place : (n : ℕ) (f : ℕ → ℕ) (c v : ℕ) → upto n (λ i. cond (eqb (c + i) v) (f i) 0) ≡ cond (leb c v && ltb v (c + n)) (f (v - c)) 0
picks_place zero f c v = grind (arith, nat_tests)
picks_place (suc n) f c v = grind (arith, nat_tests, picks_place n f c v)

pub picks_flat : (n : ℕ) (f : ℕ → ℕ) (b : Bool) → upto n (λ i. cond b (f i) 0) ≡ cond b (upto n f) 0
picks_flat n f true = refl
picks_flat n f false = upto_zero n (λ _. 0) (λ _ _. refl)
