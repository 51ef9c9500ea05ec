-- What is shown, read off the memory of a sift.
use Rattle.std.specs.Prelude.{ℕ, Bool, false, not, ◌&&◌, List, length, Some, None, Option, ◌==◌, nat_lt, slice_index}
use Rattle.network.specs.Key.{Key}
use Rattle.rendering.specs.Render.{Table}

-- the line is shown as fixed, and at this amount
abbrev pub fixed_at : List ℕ → List ℕ → Option ℕ → ℕ → Bool
fixed_at flow verdicts None x = false
fixed_at flow verdicts (Some l) x =
    nat_lt l (length verdicts) && (nat_lt l (length flow) && (slice_index verdicts l == 1 && slice_index flow l == x))

abbrev pub table_of : Key → List ℕ → List ℕ → Table
table_of key flow verdicts = record {
  signed = λ p. fixed_at flow verdicts (key.part_line p) 1;
  unsigned = λ p. fixed_at flow verdicts (key.part_line p) 0;
  may = λ p s. not (fixed_at flow verdicts (key.pair_line p s) 0);
}
