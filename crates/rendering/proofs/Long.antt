-- How long the parts of a listing are at most, where the labels keep their limits.
use Rattle.std.proofs.Common.{ℕ, zero, suc, ◌*◌, ◌<◌, ◌≤◌, true, false, cond, List, [], ◌∷◌, length, get_or, ⊎_elim, arith, length-append}
use Rattle.std.proofs.lemmas.Bool.{cases_lt}
use Rattle.std.proofs.lemmas.List.{get_or_past}
use Rattle.contents.specs.Labels.{Labelled, Small}
use Rattle.rendering.specs.Render.{Table, in_order, part_text, sign_text}

-- a place past the end has no bytes
label_long : (labels : List (List ℕ)) (most : ℕ) → ((i : ℕ) → i < length labels → length (get_or labels i []) ≤ most) → (i : ℕ) → length (get_or labels i []) ≤ most
label_long labels most each i =
    ⊎_elim (λ inside. each i inside) (λ past. rw (get_or_past labels i [] past) (omega arith)) (cases_lt i (length labels))

in_order_long : (n most : ℕ) (f : ℕ → List ℕ) → ((k : ℕ) → length (f k) ≤ most) → length (in_order n f) ≤ most * n
in_order_long zero most f each = omega arith
in_order_long (suc n) most f each = omega (arith, length-append (in_order n f) (f n), in_order_long n most f each, each n)

module _ (l : Labelled) (small : Small l) (t : Table) where
  sign_long : (p s : ℕ) → length (sign_text l t p s) ≤ 9
  sign_long p s =
      let text = label_long l.texts 8 small.texts s in
      elim (t.may p s) as (λ b. length (cond b (32 ∷ get_or l.texts s []) []) ≤ 9) [ true ↦ omega arith | false ↦ omega arith ]

  pub signs_long : (p n : ℕ) → length (in_order n (sign_text l t p)) ≤ 9 * n
  signs_long p n = in_order_long n 9 (sign_text l t p) (sign_long p)

  pub name_long : (p : ℕ) → length (get_or l.names p []) ≤ 20
  name_long p = label_long l.names 20 small.names p

  part_long : (p : ℕ) → length (part_text l t p) ≤ 599
  part_long p =
      let name = name_long p in
      let signs = signs_long p (length l.texts) in
      simp length-append (omega (arith, small.signs))

  pub parts_long : (n : ℕ) → length (in_order n (part_text l t)) ≤ 599 * n
  parts_long n = in_order_long n 599 (part_text l t) part_long
