-- Sums over the first lines of a network.
use Rattle.std.proofs.Common.{◌≡◌, ℕ, ◌+◌, ◌<◌, ◌≤◌, Bool, true, false, cond, ap, arith}
use Rattle.network.specs.Net.{Net, Line, Limits, size, line, most}
use Rattle.network.proofs.Counting.{upto_more}
use Rattle.flows.proofs.Sums.{upto_bound}
use Rattle.circulation.specs.Summed.{summed}

module _ (g : Net) (value : Line → ℕ) (test : Line → Bool) (k : ℕ) where
  -- one line more, which passes the test or does not
  pub summed_yes : test (line g k) ≡ true → summed g value test (k + 1) ≡ summed g value test k + value (line g k)
  summed_yes e =
      omega (arith, upto_more k (λ i. cond (test (line g i)) (value (line g i)) 0), ap (λ b. cond b (value (line g k)) 0) e)

  pub summed_no : test (line g k) ≡ false → summed g value test (k + 1) ≡ summed g value test k
  summed_no e =
      omega (arith, upto_more k (λ i. cond (test (line g i)) (value (line g i)) 0), ap (λ b. cond b (value (line g k)) 0) e)

  -- the same at once
  pub summed_more : {x : ℕ} → x ≡ cond (test (line g k)) (value (line g k)) 0 → {sum : ℕ} → sum ≡ summed g value test k → sum + x ≡ summed g value test (k + 1)
  summed_more e now = omega (arith, upto_more k (λ i. cond (test (line g i)) (value (line g i)) 0))

  -- bounds of lines add up to less than 32 bits
  pub summed_small : Limits g → ((i : ℕ) → i < size g → value (line g i) ≤ most (line g i)) → k < size g
      → summed g value test k + value (line g k) < 4294967296
  summed_small lim bound l =
      omega (
        arith,
        upto_bound k (λ i. cond (test (line g i)) (value (line g i)) 0) 65535
            (λ i m. small (test (line g i)) (value (line g i)) (omega (arith, bound i (omega arith), (lim.each i (omega arith)).small))),
        bound k l,
        (lim.each k l).small,
        lim.count,
      )
    where
      small : (b : Bool) (x : ℕ) → x ≤ 65535 → cond b x 0 ≤ 65535
      small true x h = h
      small false x h = omega arith

  -- so one line more still fits
  pub summed_fits : Limits g → ((i : ℕ) → i < size g → value (line g i) ≤ most (line g i)) → k < size g
      → {x : ℕ} → x ≡ cond (test (line g k)) (value (line g k)) 0 → {sum : ℕ} → sum ≡ summed g value test k → sum + x < 4294967296
  summed_fits lim bound l {x} e {sum} now = omega (arith, summed_small lim bound l, at_most (test (line g k)) (value (line g k)))
    where
      at_most : (b : Bool) (y : ℕ) → cond b y 0 ≤ y
      at_most true y = omega arith
      at_most false y = omega arith
