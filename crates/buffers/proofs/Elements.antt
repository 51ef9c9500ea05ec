-- What the answers of a list over lent places come to, in terms of the places.
use Rattle.std.proofs.Common.{◌≡◌, ℕ, ◌+◌, ◌-◌, ◌<◌, ◌≤◌, List, [], ◌∷◌, ◌++◌, length, get_or, set, Some, ap, ◌∙◌, arith}
use Rattle.std.specs.List.{slice_get}
use Rattle.std.proofs.lemmas.List.{take_more_set, get_or-take, length-take-le}
use Rattle.std.proofs.lemmas.Option.{slice_get-get_or}
use Rattle.buffers.specs.Places.{elements, last}

module _ {X : Type 0} (cells : List X) (len : ℕ) where
  pub elements_push : (x : X) → len < length cells → elements (set cells len x) (len + 1) ≡ elements cells len ++ x ∷ []
  elements_push x room = take_more_set cells len x room

  -- the element at a place below the length
  pub get_some : (i : ℕ) (d : X) → i < len → len ≤ length cells → slice_get (elements cells len) i ≡ Some (get_or cells i d)
  get_some i d inside fits =
      let long = length-take-le len cells fits in
      slice_get-get_or (elements cells len) i d (omega arith) ∙ ap Some (get_or-take len cells i d inside)

  -- the last element of a list that is not empty
  pub last_some : (d : X) → 0 < len → len ≤ length cells → last cells len ≡ Some (get_or cells (len - 1) d)
  last_some d some fits = get_some (len - 1) d (omega arith) fits
