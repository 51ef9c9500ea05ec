-- The weighted sum of a block's bytes, one byte more, and its bound.
use Rattle.std.proofs.Common.{◌≡◌, ℕ, zero, suc, ◌+◌, ◌-◌, ◌*◌, ◌%◌, ◌<◌, ◌≤◌, min, List, length, sym, refl, ap, ◌∙◌, arith, length-take, get_or-take}
use Rattle.std.proofs.lemmas.Nat.{mul-le}
use Rattle.std.proofs.lemmas.List.{get_or_past}
use Rattle.network.proofs.Counting.{upto_more}
use Rattle.blocks.specs.Bytes.{byte_at, part_at, Zeros}
use Rattle.blocks.specs.Block.{weighted, check_of}

pub weighted_none : (block : List ℕ) → 0 ≡ weighted 0 block
unfolding weighted
weighted_none block = refl

pub weighted_more : (n : ℕ) (block : List ℕ) → weighted (n + 1) block ≡ weighted n block + (n + 1) * byte_at block n
unfolding weighted
weighted_more n block = upto_more n (λ p. (p + 1) * byte_at block p)

-- one byte more of the front of a block
pub weighted_next : (size n : ℕ) (front block : List ℕ) → front ≡ part_at size block 0 → n < length front → weighted (n + 1) block ≡ weighted n block + (n + 1) * byte_at front n
weighted_next size n front block is h =
    let inside : n < size = omega (arith, ap length is, length-take size block) in
    let here : byte_at front n ≡ byte_at block n = ap (λ (xs : List ℕ). byte_at xs n) is ∙ get_or-take size block n 0 inside in
    weighted_more n block ∙ ap (λ (b : ℕ). weighted n block + (n + 1) * b) (sym here)

-- zeros weigh nothing
weighted_zeros : (k n : ℕ) (block : List ℕ) → Zeros n (n + k) block → weighted (n + k) block ≡ weighted n block
weighted_zeros zero n block h = let e : n + 0 ≡ n = omega arith in ap (λ (m : ℕ). weighted m block) e
weighted_zeros (suc k) n block h =
    let e : n + suc k ≡ n + k + 1 = omega arith in
    let none : (n + k + 1) * byte_at block (n + k) ≡ (n + k + 1) * 0 = ap (λ (b : ℕ). (n + k + 1) * b) (h (n + k) (omega arith) (omega arith)) in
    let rest = weighted_zeros k n block (λ i l m. h i l (omega arith)) in
    let more = weighted_more (n + k) block in
    ap (λ (m : ℕ). weighted m block) e ∙ omega arith

pub check_of_is : (block : List ℕ) → check_of block ≡ weighted 510 block % 65521
unfolding check_of
check_of_is block = refl

-- past the end of a block there are zeros
pub check_of_front : (n : ℕ) (front block : List ℕ) → front ≡ part_at 510 block 0 → n ≡ length front → check_of block ≡ weighted n block % 65521
unfolding check_of
check_of_front n front block is end =
    let long : n ≡ min 510 (length block) = end ∙ ap length is ∙ length-take 510 block in
    let all : n + (510 - n) ≡ 510 = omega arith in
    let whole = weighted_zeros (510 - n) n block (λ i l h. get_or_past block i 0 (omega arith)) in
    ap (λ (s : ℕ). s % 65521) (ap (λ (m : ℕ). weighted m block) (sym all) ∙ whole)

-- a byte times a place below 510, counted from 1
pub term_small : (p b : ℕ) → p < 510 → b < 256 → (p + 1) * b ≤ 130050
term_small p b h k = mul-le (p + 1) b 510 255 (omega arith) (omega arith)

-- what the bounds of the sum and its end stand on
pub ruleset weighing = (term_small, check_of_front)
