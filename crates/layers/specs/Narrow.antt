-- The bounds that entries leave of a line, for every list of entries.
use Rattle.std.specs.Prelude.{ℕ, Bool, cond, ◌&&◌, List, fold, ◌==◌, nat_le}
use Rattle.layers.specs.declared.entry.Bound.{Bound}
use Rattle.layers.specs.declared.entry.Bound.TheVariants.{AtLeast, AtMost}
use Rattle.layers.specs.declared.entry.Bounds.{Bounds}
use Rattle.layers.specs.declared.entry.Entry.{Entry}

-- the amount lies within the bounds
abbrev pub within : Bounds → ℕ → Bool
within b x = nat_le b.least x && nat_le x b.most

-- the bounds with one of the two set to an amount
abbrev pub tightened : Bound → ℕ → Bounds → Bounds
tightened AtLeast x b = record { least = x; most = b.most }
tightened AtMost x b = record { least = b.least; most = x }

-- The bounds of the line at a place after one entry: an entry on another line, or outside the bounds, is passed over.
abbrev pub narrow : ℕ → Bounds → Entry → Bounds
narrow place b e = cond (e.line == place && within b e.amount) (tightened e.bound e.amount b) b

-- and after a list of them, the first first
abbrev pub narrowed : ℕ → Bounds → List Entry → Bounds
narrowed place b es = fold (narrow place) b es
