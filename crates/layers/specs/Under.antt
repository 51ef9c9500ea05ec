-- What a network answers of its lines, and what it answers while entries stand.
use Rattle.std.specs.Prelude.{◌≡◌, ℕ, ◌<◌, ◌≤◌, List, Some, None}
use Rattle.std.proofs.Common.{sym, ap, ◌∙◌, arith}
use Rattle.std.specs.List.{slice_get}
use Rattle.std.specs.Option.{option_map}
use Rattle.std.proofs.lemmas.List.FromFn.{length-map-range_with_len, get_or-map-range_with_len}
use Rattle.std.proofs.lemmas.Option.{slice_get-get_or, slice_get_past}
use Rattle.network.specs.Net.{Net, size, line, no_line, told}
use Rattle.network.specs.Records.{line_of}
use Rattle.layers.specs.Entries.{bounded, with_bounds, bounds_under, net_under}
use Rattle.layers.specs.Narrow.{narrowed}
use Rattle.layers.specs.declared.entry.Bounds.{Bounds}
use Rattle.layers.specs.declared.entry.Entry.{Entry}

-- what a network answers at a place, in both cases
module _ (g : Net) (place : ℕ) where
  pub told_inside : place < size g → option_map told (slice_get g.lines place) ≡ Some (told (line g place))
  told_inside h = ap (option_map told) (slice_get-get_or g.lines place no_line h)

  pub told_beyond : size g ≤ place → option_map told (slice_get g.lines place) ≡ None
  told_beyond h = ap (option_map told) (slice_get_past g.lines place h)

module _ (g : Net) (bounds : ℕ → Bounds) where
  -- there are as many lines as below
  pub size_bounded : size (with_bounds g bounds) ≡ size g
  size_bounded = length-map-range_with_len (λ place. bounded (line g place) (bounds place)) 0 (size g)

  pub line_bounded : (k : ℕ) → k < size g → line (with_bounds g bounds) k ≡ bounded (line g k) (bounds k)
  line_bounded k h =
      get_or-map-range_with_len (λ place. bounded (line g place) (bounds place)) 0 (size g) k k no_line h (omega arith)

  bounded_inside : (k : ℕ) → k < size g → slice_get (with_bounds g bounds).lines k ≡ Some (bounded (line g k) (bounds k))
  bounded_inside k h =
      let same = size_bounded in
      slice_get-get_or (with_bounds g bounds).lines k no_line (omega arith) ∙ ap Some (line_bounded k h)

  pub bounded_beyond : (k : ℕ) → size g ≤ k → slice_get (with_bounds g bounds).lines k ≡ None
  bounded_beyond k h = let same = size_bounded in slice_get_past (with_bounds g bounds).lines k (omega arith)

module _ (g : Net) (es : List Entry) where
  -- the bounds left of what is told of a line
  pub left_told : (k : ℕ) (b : Bounds) (t : ℕ × ℕ × ℕ × ℕ) → t ≡ told (line g k) → b ≡ narrowed k (record { least = t.2; most = t.3 }) es → b ≡ bounds_under g es k
  left_told k b t e bounds = bounds ∙ ap (λ u. narrowed k (record { least = u.2; most = u.3 }) es) e

  -- the line told at a place where there is one below, made of its ends and the bounds left
  pub made_told : (k : ℕ) (b : Bounds) (t : ℕ × ℕ × ℕ × ℕ) → k < size g → t ≡ told (line g k) → b ≡ narrowed k (record { least = t.2; most = t.3 }) es → Some (line_of (record { tail = t.0; head = t.1; least = b.least; most = b.most })) ≡ slice_get (net_under g es).lines k
  made_told k b t h e bounds = rw (bounds, e) (sym (bounded_inside g (bounds_under g es) k h))
