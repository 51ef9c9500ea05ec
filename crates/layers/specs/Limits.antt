-- What a layer means keeps the limits of a network, for every value that the layer can hold: this is shown here.
use Rattle.std.specs.Prelude.{◌≡◌, ℕ, ◌<◌, ◌≤◌, true, List, [], ◌∷◌, Some, None, Option}
use Rattle.std.proofs.Common.{arith}
use Rattle.std.proofs.lemmas.List.{length_push, get_or_append_left, get_or_push}
use Rattle.std.proofs.lemmas.Bool.Decides.{nat_tests}
use Rattle.network.specs.Net.{Net, Line, Fit, Limits, size, line, no_line}
use Rattle.network.specs.Records.{line_of}
use Rattle.network.specs.declared.line_record.LineRecord.{LineRecord}
use Rattle.layers.specs.Entries.{bounds_of, bounded, bounds_under, net_under}
use Rattle.layers.specs.Narrow.{tightened, narrow, narrowed}
use Rattle.layers.specs.declared.entry.Bound.{Bound}
use Rattle.layers.specs.declared.entry.Bound.TheVariants.{AtLeast, AtMost}
use Rattle.layers.specs.declared.entry.Bounds.{Bounds}
use Rattle.layers.specs.declared.entry.Entry.{Entry}
use Rattle.layers.specs.Under.{size_bounded, line_bounded}
use Rattle.layers.specs.Closing.{FitsLast, fits_last, with_last, closed_net}

-- what the test of a last line finds
pub fits_from_test : (nodes lines : ℕ) (l : Line) → fits_last nodes lines l ≡ true → FitsLast nodes lines l
fits_from_test nodes lines l e = record {
  fit = record {
    tail = grind (arith, nat_tests);
    head = grind (arith, nat_tests);
    ordered = grind (arith, nat_tests);
    small = grind (arith, nat_tests);
  };
  room = grind (arith, nat_tests);
}

-- one line more that fits
pub last_limits : (g : Net) (r : LineRecord) → Limits g → FitsLast g.nodes (size g) (line_of r) → Limits (with_last g (Some r))
last_limits g r h f = record {
  nodes = h.nodes;
  count = rw length_push (omega (arith, f.room));
  each = λ k l. grind (arith, nat_tests, h.each k, f.fit, length_push g.lines (line_of r), get_or_append_left g.lines (line_of r ∷ []) no_line k, get_or_push g.lines (line_of r) no_line k);
}

pub closed_limits : (g : Net) (last : Option LineRecord) → Limits g → Limits (closed_net g last)
closed_limits g None h = h
closed_limits g (Some r) h = grind (arith, nat_tests, h, last_limits g r h, fits_from_test g.nodes (size g) (line_of r))

-- Bounds in order that lie within others.
pub record Narrower (b outer : Bounds) : Type 0 where
  pub low : outer.least ≤ b.least
  pub ordered : b.least ≤ b.most
  pub high : b.most ≤ outer.most

tightened_narrower : (kind : Bound) (x : ℕ) (b outer : Bounds) → Narrower b outer → b.least ≤ x → x ≤ b.most → Narrower (tightened kind x b) outer
tightened_narrower AtLeast x b outer h low high = record { low = omega (arith, h.low); ordered = high; high = h.high }
tightened_narrower AtMost x b outer h low high = record { low = h.low; ordered = low; high = omega (arith, h.high) }

narrow_narrower : (place : ℕ) (b outer : Bounds) (e : Entry) → Narrower b outer → Narrower (narrow place b e) outer
narrow_narrower place b outer e h = record {
  low = grind (arith, nat_tests, h.low);
  ordered = grind (arith, nat_tests, h.ordered);
  high = grind (arith, nat_tests, h.high);
}

-- entries only make bounds narrower, and leave them in order
pub narrowed_narrower : (place : ℕ) (b outer : Bounds) (es : List Entry) → Narrower b outer → Narrower (narrowed place b es) outer
narrowed_narrower place b outer [] h = h
narrowed_narrower place b outer (e ∷ es) h =
    narrowed_narrower place (narrow place b e) outer es (narrow_narrower place b outer e h)

module _ (g : Net) (es : List Entry) (h : Limits g) where
  line_fits : (k : ℕ) → k < size g → Fit g.nodes (bounded (line g k) (bounds_under g es k))
  line_fits k l =
      let fit = h.each k l in
      let b = bounds_of (line g k) in
      let n = narrowed_narrower k b b es (record { low = omega arith; ordered = fit.ordered; high = omega arith }) in
      record { tail = fit.tail; head = fit.head; ordered = n.ordered; small = omega (arith, n.high, fit.small) }

  pub under_limits : Limits (net_under g es)
  under_limits =
      let same = size_bounded g (bounds_under g es) in
      record {
        nodes = h.nodes;
        count = omega (arith, h.count);
        each = λ k l. let inside : k < size g = omega arith in rw line_bounded (line_fits k inside);
      }
