-- A shifted mask is 0 exactly if the mask has no bit from there on.
use Rattle.std.proofs.Common.{◌≡◌, ℕ, ◌/◌, ◌^◌, ◌<◌, ◌≤◌, not, eqb, leb, ⊎_elim, arith}
use Rattle.std.proofs.lemmas.Nat.{pow_pos, le-div, div_below}
use Rattle.std.proofs.lemmas.Bool.{cases_lt, ne_eqb, le-leb, lt-leb}

pub shifted_out : (mask m : ℕ) → not (eqb (mask / 2 ^ m) 0) ≡ leb (2 ^ m) mask
shifted_out mask m =
    ⊎_elim (λ (low : mask < 2 ^ m). let none : mask / 2 ^ m ≡ 0 = omega (arith, div_below mask (2 ^ m) 1 (pow_pos m) (omega arith)) in rw (none, lt-leb (2 ^ m) mask low)) (λ (high : 2 ^ m ≤ mask). let some : 1 ≤ mask / 2 ^ m = le-div 1 mask (2 ^ m) (pow_pos m) (omega arith) in rw (ne_eqb (mask / 2 ^ m) 0 (λ e. omega arith), le-leb (2 ^ m) mask high)) (cases_lt mask (2 ^ m))
