-- A test that is counted as 1 or 0.
use Rattle.std.proofs.Common.{◌≡◌, ℕ, ◌≤◌, Bool, true, false, cond, refl, arith}

-- 1 if so, 0 if not
abbrev pub one : Bool → ℕ
one b = cond b 1 0

pub one_le : (b : Bool) → one b ≤ 1
one_le true = omega arith
one_le false = omega arith

pub one_true : (b : Bool) → 1 ≤ one b → b ≡ true
one_true true h = refl
one_true false h = absurd (omega arith)

pub one_false : (b : Bool) → one b ≤ 0 → b ≡ false
one_false true h = absurd (omega arith)
one_false false h = refl
