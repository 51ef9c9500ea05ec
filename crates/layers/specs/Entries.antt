-- The entries layer: what a network means while entries stand on its lines, and what laying and undoing do.
use Rattle.std.specs.Prelude.{◌≡◌, ℕ, ◌<◌, ◌≤◌, List, [], ◌∷◌, ◌++◌, map, length, Some, None, Ok, Err, Option, Result}
use Rattle.std.specs.List.{range_with_len}
use Rattle.network.specs.Net.{Net, Line, size, line, tail, head, least, most}
use Rattle.network.specs.Records.{line_of}
use Rattle.layers.specs.Column.{entries_of}
use Rattle.layers.specs.Narrow.{narrowed}
use Rattle.layers.specs.declared.entries.Entries.{Entries}
use Rattle.layers.specs.declared.entries.LayRefusal.{LayRefusal}
use Rattle.layers.specs.declared.entries.LayRefusal.TheVariants.{NoLine, OutOfBounds, Full}
use Rattle.layers.specs.declared.entries.UndoRefusal.{UndoRefusal}
use Rattle.layers.specs.declared.entries.UndoRefusal.TheVariants.{NoEntry}
use Rattle.layers.specs.declared.entry.Bounds.{Bounds}
use Rattle.layers.specs.declared.entry.Entry.{Entry}

-- the number of each refusal
abbrev pub lay_number : LayRefusal → ℕ
lay_number NoLine = 10
lay_number OutOfBounds = 11
lay_number Full = 12

abbrev pub undo_number : UndoRefusal → ℕ
undo_number NoEntry = 13

-- a line's bounds, and the line with other bounds
abbrev pub bounds_of : Line → Bounds
bounds_of l = record { least = least l; most = most l }

abbrev pub bounded : Line → Bounds → Line
bounded l b = line_of (record { tail = tail l; head = head l; least = b.least; most = b.most })

-- the network whose lines have these bounds instead of their own
abbrev pub with_bounds : Net → (ℕ → Bounds) → Net
with_bounds g bounds = record { nodes = g.nodes; lines = map (λ place. bounded (line g place) (bounds place)) (range_with_len 0 (size g)) }

-- What entries leave of the bounds of the line at a place, and what the layer means: both for every list of entries. For those
-- that calls can leave, Present.antt has them in plain words.
abbrev pub bounds_under : Net → List Entry → ℕ → Bounds
bounds_under g es place = narrowed place (bounds_of (line g place)) es

abbrev pub net_under : Net → List Entry → Net
net_under g es = with_bounds g (bounds_under g es)

-- What the layer finds of the bounds of a line; none where there is no line.
abbrev pub FindsBounds : Net → List Entry → ℕ → Option Bounds → Type 0
FindsBounds g es place None = size g ≤ place
FindsBounds g es place (Some b) = (place < size g) × (b ≡ bounds_under g es place)

-- the amount lies within the bounds
pub record Inside (b : Bounds) (amount : ℕ) : Type 0 where
  pub low : b.least ≤ amount
  pub high : amount ≤ b.most

-- An entry is accepted where there are so many lines, whose present bounds are these, while so many entries stand.
pub record Accepted (lines : ℕ) (bounds : ℕ → Bounds) (standing : ℕ) (e : Entry) : Type 0 where
  pub there : e.line < lines
  pub within : Inside (bounds e.line) e.amount
  pub room : standing < 64

-- Why an entry is refused; a reason is told only where none before it holds.
abbrev pub LayRefused : (lines : ℕ) → (bounds : ℕ → Bounds) → (standing : ℕ) → Entry → LayRefusal → Type 0
LayRefused lines bounds standing e NoLine = lines ≤ e.line
LayRefused lines bounds standing e OutOfBounds = (e.line < lines) × (Inside (bounds e.line) e.amount → ⊥)
LayRefused lines bounds standing e Full = (e.line < lines) × Inside (bounds e.line) e.amount × (64 ≤ standing)

-- What laying an entry does to the standing entries: accepted, it joins at the end; refused, they stay.
abbrev pub Lays : (lines : ℕ) → (bounds : ℕ → Bounds) → Entry → (before after : List Entry) → Result (Unit {0}) LayRefusal → Type 0
Lays lines bounds e before after (Ok _) = Accepted lines bounds (length before) e × (after ≡ before ++ e ∷ [])
Lays lines bounds e before after (Err r) = LayRefused lines bounds (length before) e r × (after ≡ before)

-- What an undo does to them: the last goes; where none stands it is refused.
abbrev pub Undoes : (before after : List Entry) → Result Entry UndoRefusal → Type 0
Undoes before after (Ok e) = before ≡ after ++ e ∷ []
Undoes before after (Err NoEntry) = (before ≡ []) × (after ≡ before)

-- Laying and undoing on a layer, where `meaning` tells what the network below means: that network stays as it is.
pub record LaysOn {N : Type 0} (meaning : N → Net) (e : Entry) (before after : Entries N) (r : Result (Unit {0}) LayRefusal) : Type 0 where
  pub below : after.below ≡ before.below
  pub lays : Lays (size (meaning before.below)) (bounds_under (meaning before.below) (entries_of before.column)) e (entries_of before.column) (entries_of after.column) r

pub record UndoesOn {N : Type 0} (before after : Entries N) (r : Result Entry UndoRefusal) : Type 0 where
  pub below : after.below ≡ before.below
  pub undoes : Undoes (entries_of before.column) (entries_of after.column) r
