-- The text of a listing: what is shown of each part, and how it is written.
use Rattle.std.specs.Prelude.{ℕ, zero, suc, Bool, cond, List, [], ◌∷◌, ◌++◌, length, slice_index_or}
use Rattle.contents.specs.Labels.{Labelled}

-- What is shown: which parts must be signed, which cannot be, and which signs each part may have.
pub record Table : Type 0 where
  pub signed : ℕ → Bool
  pub unsigned : ℕ → Bool
  pub may : ℕ → ℕ → Bool

-- f 0, f 1 .. f (n - 1), one behind the other
abbrev pub in_order : ℕ → (ℕ → List ℕ) → List ℕ
in_order zero f = []
in_order (suc n) f = in_order n f ++ f n

-- `!` where the part must be signed, `-` where it cannot be, else `?`
abbrev pub mark : Table → ℕ → ℕ
mark t p = cond (t.signed p) 33 (cond (t.unsigned p) 45 63)

-- a sign that the part may have: a space and its text
abbrev pub sign_text : Labelled → Table → ℕ → ℕ → List ℕ
sign_text l t p s = cond (t.may p s) (32 ∷ slice_index_or l.texts s []) []

-- a part: its name, a space, its mark, the signs that it may have by place, the end of the line
abbrev pub part_text : Labelled → Table → ℕ → List ℕ
part_text l t p =
    slice_index_or l.names p [] ++ (32 ∷ []) ++ (mark t p ∷ []) ++ in_order (length l.texts) (sign_text l t p) ++ (10 ∷ [])

-- a line for each part
abbrev pub render : Labelled → Table → List ℕ
render l t = in_order (length l.names) (part_text l t)
