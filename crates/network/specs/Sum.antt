-- Sums by place, and counts of the places that pass a test.
use Rattle.std.specs.Prelude.{ℕ, zero, suc, ◌+◌, Bool, cond}

-- f 0 + f 1 + .. + f (n - 1)
abbrev pub upto : ℕ → (ℕ → ℕ) → ℕ
upto zero f = 0
upto (suc n) f = upto n f + f n

-- how many places below n pass the test
abbrev pub count_upto : ℕ → (ℕ → Bool) → ℕ
count_upto n test = upto n (λ k. cond (test k) 1 0)
