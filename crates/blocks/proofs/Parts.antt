-- A part of a byte string: its bytes, and whether they are zero.
use Rattle.std.proofs.Common.{◌≡◌, ℕ, ◌+◌, ◌-◌, ◌<◌, min, Bool, true, List, length, take, drop, Decides, sym, ap, ◌∙◌, subst, ⊎_elim, arith, length-take, length-drop, get_or-take, ◌==◌}
use Rattle.std.specs.List.{list_all}
use Rattle.std.proofs.lemmas.List.{get_or-drop, get_or_past, take_all, drop_all}
use Rattle.std.proofs.lemmas.List.Sums.{AllPass-from_list_all, list_all-from_AllPass}
use Rattle.std.proofs.lemmas.List.Elements.{All-get_or, All-from_get_or}
use Rattle.std.proofs.lemmas.Bool.{cases_lt, eqb-true, eq-eqb}
use Rattle.blocks.specs.Bytes.{byte_at, part_at, Zeros}

pub part_at_byte : (size from : ℕ) (bytes : List ℕ) (i : ℕ) → i < size → byte_at (part_at size bytes from) i ≡ byte_at bytes (from + i)
part_at_byte size from bytes i h = get_or-take size (drop from bytes) i 0 h ∙ get_or-drop from bytes i 0

abbrev Blank : ℕ → Type 0
Blank b = (b == 0) ≡ true

-- all bytes are zero, also those past the end
all_zero : (bytes : List ℕ) → list_all (λ b. b == 0) bytes ≡ true → (i : ℕ) → byte_at bytes i ≡ 0
all_zero bytes h i =
    ⊎_elim (λ l. eqb-true (byte_at bytes i) 0 (All-get_or Blank bytes i 0 l (AllPass-from_list_all _ bytes h))) (λ g. get_or_past bytes i 0 g) (cases_lt i (length bytes))

pub zeros_told : (from to : ℕ) (bytes : List ℕ) (r : Bool) → r ≡ list_all (λ b. b == 0) (part_at (to - from) bytes from) → Decides r (Zeros from to bytes)
zeros_told from to bytes r is =
    let part = part_at (to - from) bytes from in (
      λ t i l h.
          let at : from + (i - from) ≡ i = omega arith in
          subst (λ (k : ℕ). byte_at bytes k ≡ 0) at (sym (part_at_byte (to - from) from bytes (i - from) (omega arith)) ∙ all_zero part (sym is ∙ t) (i - from)),
      λ zeros.
          is ∙ list_all-from_AllPass _ part (All-from_get_or Blank part 0 (λ k h.
          let inside : k < to - from = omega (arith, length-take {A = ℕ}) in
          eq-eqb (byte_at part k) 0 (part_at_byte (to - from) from bytes k inside ∙ zeros (from + k) (omega arith) (omega arith)))),
    )

-- no more can be taken than there is
pub take_within : (n : ℕ) (xs : List ℕ) → take (min n (length xs)) xs ≡ take n xs
take_within n xs =
    ⊎_elim (λ l. let e : min n (length xs) ≡ n = omega arith in ap (λ k. take k xs) e) (λ l. let e : min n (length xs) ≡ length xs = omega arith in ap (λ k. take k xs) e ∙ take_all (length xs) xs (omega arith) ∙ sym (take_all n xs l)) (cases_lt n (length xs))

pub drop_within : (n : ℕ) (xs : List ℕ) → drop (min n (length xs)) xs ≡ drop n xs
drop_within n xs =
    ⊎_elim (λ l. let e : min n (length xs) ≡ n = omega arith in ap (λ k. drop k xs) e) (λ l. let e : min n (length xs) ≡ length xs = omega arith in ap (λ k. drop k xs) e ∙ drop_all (length xs) xs (omega arith) ∙ sym (drop_all n xs l)) (cases_lt n (length xs))

pub part_within : (bytes : List ℕ) (from size start end : ℕ) → start ≡ min from (length bytes) → end ≡ start + min size (length bytes - start) → take (end - start) (drop start bytes) ≡ part_at size bytes from
part_within bytes from size start end s e =
    let n : end - start ≡ min size (length (drop start bytes)) = omega (arith, length-drop start bytes) in
    ap (λ k. take k (drop start bytes)) n ∙ take_within size (drop start bytes) ∙ ap (λ (xs : List ℕ). take size xs) (ap (λ k. drop k bytes) s ∙ drop_within from bytes)
