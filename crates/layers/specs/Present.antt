-- Present bounds, and the entries that can stand: this is what the layer keeps, in the words of its users.
use Rattle.std.specs.Prelude.{◌≡◌, ℕ, ◌<◌, min, max, Bool, true, false, ◌&&◌, List, map, filter, fold, length, take, Result, ◌==◌, slice_index_or}
use Rattle.network.specs.Net.{Net, size, line}
use Rattle.layers.specs.Named.{no_entry}
use Rattle.layers.specs.Entries.{bounds_of, with_bounds, bounds_under, net_under, Accepted, Lays, Undoes}
use Rattle.layers.specs.declared.entries.LayRefusal.{LayRefusal}
use Rattle.layers.specs.declared.entries.UndoRefusal.{UndoRefusal}
use Rattle.layers.specs.declared.entry.Bound.{Bound}
use Rattle.layers.specs.declared.entry.Bound.TheVariants.{AtLeast, AtMost}
use Rattle.layers.specs.declared.entry.Bounds.{Bounds}
use Rattle.layers.specs.declared.entry.Entry.{Entry}

-- the highest, and the lowest, of a number and a list
abbrev pub highest : ℕ → List ℕ → ℕ
highest x ys = fold max x ys

abbrev pub lowest : ℕ → List ℕ → ℕ
lowest x ys = fold min x ys

-- two entries are of one kind
abbrev pub same_bound : Bound → Bound → Bool
same_bound AtLeast AtLeast = true
same_bound AtLeast AtMost = false
same_bound AtMost AtLeast = false
same_bound AtMost AtMost = true

-- the amounts of the entries of one kind on the line at a place
abbrev pub amounts : Bound → ℕ → List Entry → List ℕ
amounts kind place es = map (λ e. e.amount) (filter (λ e. same_bound kind e.bound && e.line == place) es)

-- The highest of a least and the "at least" amounts on the line, and the lowest of a most and the "at most" amounts.
abbrev pub present_of : Bounds → List Entry → ℕ → Bounds
present_of b es place = record {
  least = highest b.least (amounts AtLeast place es);
  most = lowest b.most (amounts AtMost place es);
}

-- the present bounds of the line at a place while these entries stand, and the network with them
abbrev pub present : Net → List Entry → ℕ → Bounds
present g es place = present_of (bounds_of (line g place)) es place

abbrev pub present_net : Net → List Entry → Net
present_net g es = with_bounds g (present g es)

-- Entries that can stand: each was accepted while those before it stood.
abbrev pub Standing : Net → List Entry → Type 0
Standing g es = (i : ℕ) → i < length es → Accepted (size g) (present g (take i es)) i (slice_index_or es i no_entry)

-- While entries stand that can stand, the layer means the network with their present bounds.
abbrev pub StandingEntriesGivePresentBounds : Type 0
StandingEntriesGivePresentBounds = (g : Net) (es : List Entry) → Standing g es → net_under g es ≡ present_net g es

-- Laying then goes by the present bounds and leaves entries that can stand.
pub record LaysStanding (g : Net) (e : Entry) (before after : List Entry) (r : Result (Unit {0}) LayRefusal) : Type 0 where
  pub lays : Lays (size g) (present g before) e before after r
  pub stands : Standing g after

abbrev pub LayingKeepsEntriesStanding : Type 0
LayingKeepsEntriesStanding =
    (g : Net) (e : Entry) (before after : List Entry) (r : Result (Unit {0}) LayRefusal)
    → Lays (size g) (bounds_under g before) e before after r → Standing g before → LaysStanding g e before after r

-- So does an undo.
abbrev pub UndoingKeepsEntriesStanding : Type 0
UndoingKeepsEntriesStanding =
    (g : Net) (before after : List Entry) (r : Result Entry UndoRefusal) → Undoes before after r → Standing g before
    → Standing g after
