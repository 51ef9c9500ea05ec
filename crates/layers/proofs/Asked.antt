-- What a network answers of its lines, and what it answers while entries stand.
use Rattle.std.proofs.Common.{◌≡◌, ℕ, ◌<◌, ◌≤◌, List, Some, None, arith}
use Rattle.std.specs.List.{slice_get}
use Rattle.std.specs.Option.{option_map}
use Rattle.std.proofs.lemmas.Option.{slice_get-get_or, slice_get_past}
use Rattle.std.proofs.lemmas.Bool.Decides.{nat_tests}
use Rattle.network.specs.Net.{Net, size, line, no_line, told}
use Rattle.layers.specs.Entries.{bounds_of, bounded, bounds_under, net_under}
use Rattle.layers.specs.Narrow.{narrowed}
use Rattle.layers.specs.Under.{size_bounded, line_bounded}
use Rattle.layers.specs.declared.entry.Entry.{Entry}

-- no answer: there is no line; an answer: it is what is told of the line
module _ (g : Net) (place : ℕ) where
  pub none_asked : None ≡ option_map told (slice_get g.lines place) → size g ≤ place
  none_asked e = grind (arith, nat_tests, slice_get-get_or g.lines place no_line)

  pub some_asked : (t : ℕ × ℕ × ℕ × ℕ) → Some t ≡ option_map told (slice_get g.lines place) → (place < size g) × (t ≡ told (line g place))
  some_asked t e = grind (arith, nat_tests, slice_get-get_or g.lines place no_line, slice_get_past g.lines place)

  -- the line below, with the bounds that the entries leave of it
  pub line_under : (es : List Entry) → slice_get (net_under g es).lines place ≡ option_map (λ l. bounded l (narrowed place (bounds_of l) es)) (option_map told (slice_get g.lines place))
  line_under es =
      grind (arith, nat_tests, slice_get-get_or g.lines place no_line, slice_get_past g.lines place, slice_get-get_or (net_under g es).lines place no_line, slice_get_past (net_under g es).lines place, size_bounded g (bounds_under g es), line_bounded g (bounds_under g es) place)
