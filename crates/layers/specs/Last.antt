-- The lines of a network with one line more, by place.
use Rattle.std.specs.Prelude.{◌≡◌, ℕ, ◌+◌, ◌<◌, ◌≤◌, true, [], ◌∷◌, is_some, Some, None, Option, ◌≢◌, refl}
use Rattle.std.proofs.Common.{sym, ap, ◌∙◌, ⊎_elim, arith}
use Rattle.std.specs.List.{slice_get}
use Rattle.std.specs.Option.{option_map}
use Rattle.std.proofs.lemmas.List.{length_push, get_or_append_left, get_or_push}
use Rattle.std.proofs.lemmas.Option.{slice_get-get_or, slice_get_past}
use Rattle.std.proofs.lemmas.Bool.{cases_lt, false≢true}
use Rattle.network.specs.Net.{Net, size, no_line}
use Rattle.network.specs.Records.{line_of}
use Rattle.network.specs.declared.line_record.LineRecord.{LineRecord}
use Rattle.layers.specs.Closing.{with_last}

module _ (g : Net) (r : LineRecord) where
  pub size_last : size (with_last g (Some r)) ≡ size g + 1
  size_last = length_push g.lines (line_of r)

  nth_below : (k : ℕ) → k < size g → slice_get (with_last g (Some r)).lines k ≡ slice_get g.lines k
  nth_below k h =
      let longer = size_last in
      slice_get-get_or (with_last g (Some r)).lines k no_line (omega arith) ∙ ap Some (get_or_append_left g.lines (line_of r ∷ []) no_line k h) ∙ sym (slice_get-get_or g.lines k no_line h)

  nth_beyond : (k : ℕ) → size g < k → slice_get (with_last g (Some r)).lines k ≡ slice_get g.lines k
  nth_beyond k h =
      let longer = size_last in
      slice_get_past (with_last g (Some r)).lines k (omega arith) ∙ sym (slice_get_past g.lines k (omega arith))

  nth_last : slice_get (with_last g (Some r)).lines (size g) ≡ Some (line_of r)
  nth_last =
      let longer = size_last in
      slice_get-get_or (with_last g (Some r)).lines (size g) no_line (omega arith) ∙ ap Some (get_or_push g.lines (line_of r) no_line (size g) refl)

last_told : (g : Net) (o : Option LineRecord) → option_map line_of o ≡ slice_get (with_last g o).lines (size g)
last_told g None = sym (slice_get_past g.lines (size g) (omega arith))
last_told g (Some r) = sym (nth_last g r)

-- the line at the place after the lines below, and how many lines there are with it
pub here_told : (g : Net) (o found : Option LineRecord) (k : ℕ) → found ≡ o → k ≡ size g → option_map line_of found ≡ slice_get (with_last g o).lines k
here_told g o found k e here = rw (e, here) (last_told g o)

pub one_more : (g : Net) (o found : Option LineRecord) (r : LineRecord) (n : ℕ) → found ≡ o → found ≡ Some r → n ≡ size g → n + 1 ≡ size (with_last g o)
one_more g o found r n e is count = rw (← e, is, count) (sym (size_last g r))

-- at every other place the line is the one below
pub other_told : (g : Net) (o : Option LineRecord) (k : ℕ) → (k ≢ size g) → slice_get (with_last g o).lines k ≡ slice_get g.lines k
other_told g None k h = refl
other_told g (Some r) k h =
    ⊎_elim (nth_below g r k) (λ (le : size g ≤ k). let beyond : size g < k = omega arith in nth_beyond g r k beyond) (cases_lt k (size g))

-- where there is a line below, it is the one told
pub inside_told : (g : Net) (o : Option LineRecord) (k : ℕ) → is_some (slice_get g.lines k) ≡ true → slice_get (with_last g o).lines k ≡ slice_get g.lines k
inside_told g o k h =
    other_told g o k (λ at. let none = slice_get_past g.lines k (omega arith) in false≢true (rw none at h))

-- there are at least as many lines as below
pub size_grows : (g : Net) (o : Option LineRecord) → size g ≤ size (with_last g o)
size_grows g None = omega arith
size_grows g (Some r) = omega (arith, size_last g r)
