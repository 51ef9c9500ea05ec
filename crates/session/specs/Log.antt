-- The reference log: which entries stand after some calls, and what laying and undoing answer. It knows the network's nodes and
-- lines and the calls so far, and nothing of a layer.
use Rattle.std.specs.Prelude.{ℕ, ◌-◌, Bool, cond, ◌&&◌, List, [], ◌∷◌, ◌++◌, length, take, Ok, Err, Result, nat_le, nat_lt, slice_index_or}
use Rattle.network.specs.Net.{Net, size}
use Rattle.layers.specs.Present.{present}
use Rattle.layers.specs.Named.{no_entry}
use Rattle.layers.specs.declared.entry.Entry.{Entry}
use Rattle.layers.specs.declared.entries.LayRefusal.{LayRefusal}
use Rattle.layers.specs.declared.entries.LayRefusal.TheVariants.{NoLine, OutOfBounds, Full}
use Rattle.layers.specs.declared.entries.UndoRefusal.{UndoRefusal}
use Rattle.layers.specs.declared.entries.UndoRefusal.TheVariants.{NoEntry}
use Rattle.session.specs.declared.turn.Call.{Call}
use Rattle.session.specs.declared.turn.Call.TheVariants.{Lay, Undo, Sift}
use Rattle.session.specs.declared.turn.Turn.{Turn}

-- the amount lies within the present bounds of its line
abbrev pub in_bounds : Net → List Entry → Entry → Bool
in_bounds g es e = nat_le (present g es e.line).least e.amount && nat_le e.amount (present g es e.line).most

-- Laying an entry while these stand: no such line, then an amount outside the present bounds, then 64 entries standing.
abbrev pub lay_answer : Net → List Entry → Entry → Result (Unit {0}) LayRefusal
lay_answer g es e = cond (nat_lt e.line (size g)) (cond (in_bounds g es e) (cond (nat_lt (length es) 64) (Ok tt) (Err Full)) (Err OutOfBounds)) (Err NoLine)

-- Undoing while these stand: the last goes, and is told.
abbrev pub undo_answer : List Entry → Result Entry UndoRefusal
undo_answer es = cond (nat_lt 0 (length es)) (Ok (slice_index_or es (length es - 1) no_entry)) (Err NoEntry)

-- what stands after an entry was laid, by the answer: accepted, it joins at the end
abbrev pub joined : List Entry → Entry → Result (Unit {0}) LayRefusal → List Entry
joined es e (Ok _) = es ++ e ∷ []
joined es e (Err _) = es

-- what stands after a call; a refusal or a sift leaves the entries as they are
abbrev pub after_call : Net → List Entry → Call → List Entry
after_call g es (Lay e) = joined es e (lay_answer g es e)
after_call g es Undo = take (length es - 1) es
after_call g es (Sift _) = es

-- what stands after some calls, beginning with these entries
abbrev pub after_calls : Net → List Entry → List Turn → List Entry
after_calls g es [] = es
after_calls g es (t ∷ ts) = after_calls g (after_call g es t.call) ts

-- what stands when the call at place k is made, on a fresh layer
abbrev pub standing : Net → List Turn → ℕ → List Entry
standing g turns k = after_calls g [] (take k turns)
