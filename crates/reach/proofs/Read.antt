-- What is read from a list over lent places.
use Rattle.std.proofs.Common.{◌≡◌, ℕ, ◌<◌, ◌≤◌, List, length, get_or, Some, None, sym, ap, ◌∙◌, inl, inr, arith}
use Rattle.std.specs.List.{slice_get}
use Rattle.std.proofs.lemmas.Bool.{cases_lt}
use Rattle.std.proofs.lemmas.List.{length-take-le, get_or-take}
use Rattle.std.proofs.lemmas.Option.{slice_get_within, get_or_from_slice_get}
use Rattle.buffers.specs.Places.{elements}
use Rattle.buffers.proofs.Elements.{get_some}

-- An element that was read: it stands at a place in use.
pub record Read {X : Type 0} (cells : List X) (len i : ℕ) (d x : X) : Type 0 where
  pub inside : i < len
  pub here : x ≡ get_or cells i d

module _ {X : Type 0} (cells : List X) (len i : ℕ) (d : X) (fits : len ≤ length cells) where
  pub read_some : (x : X) → Some x ≡ slice_get (elements cells len) i → Read cells len i d x
  read_some x e =
      let long = length-take-le len cells fits in
      let inside : i < len = omega (arith, slice_get_within (elements cells len) i x (sym e)) in
      record { inside = inside; here = sym (get_or_from_slice_get (elements cells len) i x d (sym e)) ∙ get_or-take len cells i d inside }

  pub read_none : None ≡ slice_get (elements cells len) i → len ≤ i
  read_none e =
      elim (cases_lt i len) [
        | inl inside ↦ let some = get_some cells len i d inside fits in let never : ◌≡◌ {A = ℕ} 0 1 = cc in absurd (omega arith)
        | inr past ↦ past
      ]

  -- the same of the slice that the elements are handed out as
  pub read_element : (xs : List X) → xs ≡ elements cells len → i < length xs → Read cells len i d (get_or xs i d)
  read_element xs e h =
      let inside : i < len = omega (arith, ap length e, length-take-le len cells fits) in
      record { inside = inside; here = ap (λ ys. get_or ys i d) e ∙ get_or-take len cells i d inside }
