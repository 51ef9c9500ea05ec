-- The acts that change entries: what each asks of them, its answer and what stands then.
use Rattle.std.specs.Prelude.{◌≡◌, ℕ, List, Some, None, Ok, Err, Option, Result}
use Rattle.contents.specs.declared.act.Act.{Act}
use Rattle.contents.specs.declared.act.Act.TheVariants.{Fix as FixAct, Bar as BarAct, Require as RequireAct, LeaveOut as LeaveOutAct, Undo as UndoAct, Query}
use Rattle.network.specs.Net.{Net, size}
use Rattle.network.specs.Key.{Key}
use Rattle.layers.specs.Column.{entries_of}
use Rattle.layers.specs.Entries.{Lays, Undoes, bounds_under, lay_number, undo_number}
use Rattle.layers.specs.Present.{Standing}
use Rattle.layers.specs.declared.entries.Entries.{Entries}
use Rattle.layers.specs.declared.entries.LayRefusal.{LayRefusal}
use Rattle.layers.specs.declared.entries.UndoRefusal.{UndoRefusal}
use Rattle.layers.specs.declared.entry.Bound.{Bound}
use Rattle.layers.specs.declared.entry.Bound.TheVariants.{AtLeast, AtMost}
use Rattle.layers.specs.declared.entry.Entry.{Entry}
use Rattle.session.specs.Log.{lay_answer, undo_answer, after_call}
use Rattle.session.specs.declared.turn.Call.TheVariants.{Lay as LayCall, Undo as UndoCall}
use Rattle.acts.specs.declared.change.Change.{Change}
use Rattle.acts.specs.declared.change.Change.TheVariants.{Fix, Bar, Require, LeaveOut, Undo}
use Rattle.acts.specs.declared.refusal.ActRefusal.{ActRefusal}
use Rattle.acts.specs.declared.refusal.ActRefusal.TheVariants.{Short, NoPlace, Lay, Undo as Undone}

-- the number of each refusal
abbrev pub act_number : ActRefusal → ℕ
act_number Short = 1
act_number NoPlace = 18
act_number (Lay r) = lay_number r
act_number (Undone r) = undo_number r

-- the change that an act asks for; a query asks for none
abbrev pub change_of : Act → Option Change
change_of (FixAct p s) = Some (Fix p s)
change_of (BarAct p s) = Some (Bar p s)
change_of (RequireAct p) = Some (Require p)
change_of (LeaveOutAct p) = Some (LeaveOut p)
change_of UndoAct = Some Undo
change_of Query = None

-- What is asked of the entries: one more, the last away, or nothing, since the part or the pair has no line.
pub data Ask : Type 0 where
  enter : Entry → Ask
  take_back : Ask
  nothing : Ask

-- an entry on the line that a legend answers
abbrev pub on_line : Option ℕ → Bound → ℕ → Ask
on_line None kind x = nothing
on_line (Some k) kind x = enter (record { line = k; bound = kind; amount = x })

-- A part has a sign: its pair carries at least 1; it has it not: at most 0. A part is signed or left out: the same of its own line.
abbrev pub asked : Key → Change → Ask
asked key (Fix p s) = on_line (key.pair_line p s) AtLeast 1
asked key (Bar p s) = on_line (key.pair_line p s) AtMost 0
asked key (Require p) = on_line (key.part_line p) AtLeast 1
asked key (LeaveOut p) = on_line (key.part_line p) AtMost 0
asked key Undo = take_back

-- an answer of the layer as that of an act
abbrev pub entered : Result (Unit {0}) LayRefusal → Result (Unit {0}) ActRefusal
entered (Ok _) = Ok tt
entered (Err r) = Err (Lay r)

abbrev pub taken_back : Result Entry UndoRefusal → Result (Unit {0}) ActRefusal
taken_back (Ok _) = Ok tt
taken_back (Err r) = Err (Undone r)

-- by the reference log: the answer while these entries stand, and what stands then
abbrev pub answer_to : Net → List Entry → Ask → Result (Unit {0}) ActRefusal
answer_to g es (enter e) = entered (lay_answer g es e)
answer_to g es take_back = taken_back (undo_answer es)
answer_to g es nothing = Err NoPlace

abbrev pub after_ask : Net → List Entry → Ask → List Entry
after_ask g es (enter e) = after_call g es (LayCall e)
after_ask g es take_back = after_call g es UndoCall
after_ask g es nothing = es

-- An act goes by the reference log, and leaves entries that can stand.
pub record Logged (g : Net) (ask : Ask) (before after : List Entry) (r : Result (Unit {0}) ActRefusal) : Type 0 where
  pub answer : r ≡ answer_to g before ask
  pub left : after ≡ after_ask g before ask
  pub stands : Standing g after

-- What an act does to the entries of any layer, those too that no call has left: what laying or undoing does.
abbrev pub Asks : Net → Ask → (before after : List Entry) → Result (Unit {0}) ActRefusal → Type 0
Asks g (enter e) before after r =
    (q : Result (Unit {0}) LayRefusal) × (Lays (size g) (bounds_under g before) e before after q × (r ≡ entered q))
Asks g take_back before after r = (q : Result Entry UndoRefusal) × (Undoes before after q × (r ≡ taken_back q))
Asks g nothing before after r = (r ≡ Err NoPlace) × (after ≡ before)

-- An act on a layer, where `meaning` tells what the network below means: that network stays as it is. Entries that can stand go
-- by the reference log.
pub record ActsOn {N : Type 0} (meaning : N → Net) (ask : Ask) (before after : Entries N) (r : Result (Unit {0}) ActRefusal) : Type 0 where
  pub below : after.below ≡ before.below
  pub asks : Asks (meaning before.below) ask (entries_of before.column) (entries_of after.column) r
  pub logged : Standing (meaning before.below) (entries_of before.column) → Logged (meaning before.below) ask (entries_of before.column) (entries_of after.column) r
