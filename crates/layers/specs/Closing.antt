-- The closing layer: what a network means with one line more, the last.
use Rattle.std.specs.Prelude.{◌≡◌, ℕ, ◌<◌, Bool, true, cond, ◌&&◌, [], ◌∷◌, ◌++◌, is_some, Some, None, Ok, Err, Option, Result, nat_le, nat_lt}
use Rattle.network.specs.Net.{Net, Line, Fit, size, tail, head, least, most}
use Rattle.network.specs.Records.{line_of}
use Rattle.network.specs.declared.line_record.LineRecord.{LineRecord}
use Rattle.layers.specs.declared.closing.Closing.{Closing}
use Rattle.layers.specs.declared.closing.CloseRefusal.{CloseRefusal}
use Rattle.layers.specs.declared.closing.CloseRefusal.TheVariants.{AlreadyClosed, Unfit}

-- the number of each refusal
abbrev pub close_number : CloseRefusal → ℕ
close_number AlreadyClosed = 8
close_number Unfit = 9

-- A line fits as the last over so many nodes and lines: it fits among the nodes, and there is room for one line more.
pub record FitsLast (nodes lines : ℕ) (l : Line) : Type 0 where
  pub fit : Fit nodes l
  pub room : lines < 16384

-- the same as a test
abbrev pub fits_last : (nodes lines : ℕ) → Line → Bool
fits_last nodes lines l =
    nat_lt (tail l) nodes && (nat_lt (head l) nodes && (nat_le (least l) (most l) && (nat_le (most l) 65535 && nat_lt lines 16384)))

-- the line that a layer keeps, but for one that does not fit: it is passed over
abbrev pub standing_last : Net → Option LineRecord → Option LineRecord
standing_last g None = None
standing_last g (Some r) = cond (fits_last g.nodes (size g) (line_of r)) (Some r) None

-- the network with this line at the end, if there is one
abbrev pub with_last : Net → Option LineRecord → Net
with_last g None = g
with_last g (Some r) = record { nodes = g.nodes; lines = g.lines ++ line_of r ∷ [] }

-- what the layer means over a network
abbrev pub closed_net : Net → Option LineRecord → Net
closed_net g last = with_last g (standing_last g last)

-- Why a layer that keeps `last` is not closed with this line; the first reason comes first.
abbrev pub CloseRefused : Net → LineRecord → Option LineRecord → CloseRefusal → Type 0
CloseRefused g line last AlreadyClosed = is_some last ≡ true
CloseRefused g line last Unfit = (last ≡ None) × (FitsLast g.nodes (size g) (line_of line) → ⊥)

-- Closed: it was not before, the line fits, and it stands at the end of the lines below.
pub record Closed (g : Net) (line : LineRecord) (before after : Option LineRecord) : Type 0 where
  pub unclosed : before ≡ None
  pub fits : FitsLast g.nodes (size g) (line_of line)
  pub stands : closed_net g after ≡ with_last g (Some line)

-- What closing does: accepted, the line stands at the end; refused, nothing changes.
abbrev pub Closes : Net → LineRecord → (before after : Option LineRecord) → Result (Unit {0}) CloseRefusal → Type 0
Closes g line before after (Ok _) = Closed g line before after
Closes g line before after (Err e) = CloseRefused g line before e × (after ≡ before)

-- Closing a layer, where `meaning` tells what the network below means: that network stays as it is.
pub record ClosesOn {N : Type 0} (meaning : N → Net) (line : LineRecord) (before after : Closing N) (r : Result (Unit {0}) CloseRefusal) : Type 0 where
  pub below : after.below ≡ before.below
  pub closes : Closes (meaning before.below) line before.last after.last r
