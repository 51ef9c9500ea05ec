-- Sums by place: order, change of one place, change of the order of summation; and counts.
use Rattle.std.proofs.Common.{◌≡◌, ℕ, zero, suc, ◌+◌, ◌*◌, ◌<◌, ◌≤◌, Bool, true, false, cond, sym, refl, ap, inl, inr, arith}
use Rattle.std.proofs.lemmas.Bool.{cases_eq}
use Rattle.network.specs.Sum.{upto, count_upto}

pub upto_le : (n : ℕ) (f g : ℕ → ℕ) → ((i : ℕ) → i < n → f i ≤ g i) → upto n f ≤ upto n g
upto_le zero f g h = omega arith
upto_le (suc n) f g h = omega (arith, upto_le n f g (λ i l. h i (omega arith)), h n (omega arith))

pub upto_same : (n : ℕ) (f g : ℕ → ℕ) → ((i : ℕ) → i < n → f i ≡ g i) → upto n f ≡ upto n g
upto_same zero f g h = refl
upto_same (suc n) f g h = omega (arith, upto_same n f g (λ i l. h i (omega arith)), h n (omega arith))

pub upto_add : (n : ℕ) (f g : ℕ → ℕ) → upto n (λ i. f i + g i) ≡ upto n f + upto n g
upto_add zero f g = refl
upto_add (suc n) f g = omega (arith, upto_add n f g)

pub upto_zero : (n : ℕ) (f : ℕ → ℕ) → ((i : ℕ) → i < n → f i ≡ 0) → upto n f ≡ 0
upto_zero zero f h = refl
upto_zero (suc n) f h = omega (arith, upto_zero n f (λ i l. h i (omega arith)), h n (omega arith))

-- more places, a larger sum
pub upto_longer : (m n : ℕ) (f : ℕ → ℕ) → m ≤ n → upto m f ≤ upto n f
upto_longer m zero f le = let e : m ≡ 0 = omega arith in rw e (omega arith)
upto_longer m (suc n) f le =
    elim (cases_eq m (suc n)) [
      | inl e ↦ omega (arith, ap (λ k. upto k f) e)
      | inr ne ↦ omega (arith, upto_longer m n f (omega (arith, ne)))
    ]

-- one place is at most the sum
pub upto_part : (n k : ℕ) (f : ℕ → ℕ) → k < n → f k ≤ upto n f
upto_part zero k f l = omega arith
upto_part (suc n) k f l =
    elim (cases_eq k n) [ inl e ↦ omega (arith, ap f e) | inr e ↦ omega (arith, upto_part n k f (omega arith)) ]

-- all places but one in order
pub upto_but : (n k : ℕ) (f g : ℕ → ℕ) → k < n → ((i : ℕ) → i < n → (i ≡ k → ⊥) → f i ≤ g i)
    → upto n f + g k ≤ upto n g + f k
upto_but zero k f g l h = omega arith
upto_but (suc n) k f g l h =
    elim (cases_eq k n) [
      | inl e ↦ omega (arith, ap f e, ap g e, upto_le n f g (λ i m. h i (omega arith) (omega arith)))
      | inr e ↦ omega (arith, upto_but n k f g (omega arith) (λ i m. h i (omega arith)), h n (omega arith) (omega arith))
    ]

-- all places but one the same
pub upto_change : (n k : ℕ) (f g : ℕ → ℕ) → k < n → ((i : ℕ) → i < n → (i ≡ k → ⊥) → f i ≡ g i)
    → upto n f + g k ≡ upto n g + f k
upto_change n k f g l h =
    omega (arith, upto_but n k f g l (λ i m e. omega (arith, h i m e)), upto_but n k g f l (λ i m e. omega (arith, h i m e)))

-- all places but one zero
pub upto_only : (n k : ℕ) (f : ℕ → ℕ) → k < n → ((i : ℕ) → i < n → (i ≡ k → ⊥) → f i ≡ 0) → upto n f ≡ f k
upto_only n k f l h = omega (arith, upto_change n k f (λ _. 0) l h, upto_zero n (λ _. 0) (λ _ _. refl))

-- a sum of amounts that are each at most x
pub upto_bound : (n : ℕ) (f : ℕ → ℕ) (x : ℕ) → ((i : ℕ) → i < n → f i ≤ x) → upto n f ≤ n * x
upto_bound zero f x h = omega arith
upto_bound (suc n) f x h = omega (arith, upto_bound n f x (λ i l. h i (omega arith)), h n (omega arith))

-- the order of summation does not matter
pub upto_swap : (n m : ℕ) (h : ℕ → ℕ → ℕ) → upto n (λ v. upto m (λ i. h v i)) ≡ upto m (λ i. upto n (λ v. h v i))
upto_swap zero m h = sym (upto_zero m (λ _. 0) (λ _ _. refl))
upto_swap (suc n) m h =
    omega (arith, upto_swap n m h, upto_add m (λ i. upto n (λ v. h v i)) (λ i. h n i))

-- what is chosen by a test that does not look at the place comes out of the sum
pub upto_cond : (n : ℕ) (b : Bool) (f : ℕ → ℕ) → upto n (λ i. cond b (f i) 0) ≡ cond b (upto n f) 0
upto_cond n true f = refl
upto_cond n false f = upto_zero n (λ _. 0) (λ _ _. refl)

one_le : (b : Bool) → cond {A = ℕ} b 1 0 ≤ 1
one_le b = grind arith

upto_ones : (n : ℕ) → upto n (λ _. 1) ≡ n
upto_ones zero = refl
upto_ones (suc n) = omega (arith, upto_ones n)

pub count_le : (n : ℕ) (test : ℕ → Bool) → count_upto n test ≤ n
count_le n test = omega (arith, upto_le n (λ i. cond (test i) 1 0) (λ _. 1) (λ i _. one_le (test i)), upto_ones n)

-- a place that fails the test leaves the count below the number of places
pub count_less : (n k : ℕ) (test : ℕ → Bool) → k < n → test k ≡ false → count_upto n test < n
count_less n k test l e =
    omega (
      arith,
      upto_but n k (λ i. cond (test i) 1 0) (λ _. 1) l (λ i _ _. one_le (test i)),
      ap (λ b. cond {A = ℕ} b 1 0) e,
      upto_ones n,
    )

-- one more place that passes adds one
pub count_more : (n k : ℕ) (test more : ℕ → Bool) → k < n → test k ≡ false → more k ≡ true
    → ((i : ℕ) → i < n → (i ≡ k → ⊥) → more i ≡ test i) → count_upto n more ≡ count_upto n test + 1
count_more n k test more l e m h =
    omega (
      arith,
      upto_change n k (λ i. cond (more i) 1 0) (λ i. cond (test i) 1 0) l (λ i j d. ap (λ b. cond {A = ℕ} b 1 0) (h i j d)),
      ap (λ b. cond {A = ℕ} b 1 0) e,
      ap (λ b. cond {A = ℕ} b 1 0) m,
    )

-- a sum of nothing has nothing at any place
pub upto_none : (n k : ℕ) (f : ℕ → ℕ) → upto n f ≡ 0 → k < n → f k ≡ 0
upto_none n k f e l = omega (arith, upto_part n k f l)

-- a wider test counts at least as much
pub count_wider : (n : ℕ) (test more : ℕ → Bool) → ((i : ℕ) → i < n → test i ≡ true → more i ≡ true)
    → count_upto n test ≤ count_upto n more
count_wider n test more h = upto_le n (λ i. cond (test i) 1 0) (λ i. cond (more i) 1 0) (λ i l. wider (test i) (more i) (h i l))
  where
    wider : (a b : Bool) → (a ≡ true → b ≡ true) → cond {A = ℕ} a 1 0 ≤ cond {A = ℕ} b 1 0
    wider a b k = grind arith
