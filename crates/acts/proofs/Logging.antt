-- An act on the layer is a call of the reference log.
use Rattle.std.proofs.Common.{◌≡◌, List, Result, sym, refl, ap, ◌∙◌, subst}
use Rattle.network.specs.Net.{Net}
use Rattle.layers.specs.Present.{Standing}
use Rattle.layers.specs.declared.entry.Entry.{Entry}
use Rattle.layers.proofs.Standing.{lays_standing, undoes_standing}
use Rattle.session.proofs.Steps.{lay_answer_is, lay_stands, undo_answer_is, undo_stands}
use Rattle.layers.specs.Column.{entries_of}
use Rattle.layers.specs.Entries.{LaysOn, UndoesOn}
use Rattle.layers.specs.declared.entries.LayRefusal.{LayRefusal}
use Rattle.layers.specs.declared.entries.UndoRefusal.{UndoRefusal}
use Rattle.layers.specs.declared.entries.Entries.{Entries}
use Rattle.acts.specs.Changes.{Ask, enter, take_back, nothing, Asks, Logged, ActsOn, entered, taken_back}
use Rattle.acts.specs.declared.refusal.ActRefusal.{ActRefusal}

pub logged : (g : Net) (ask : Ask) (before after : List Entry) (r : Result (Unit {0}) ActRefusal) → Asks g ask before after r → Standing g before
    → Logged g ask before after r
logged g (enter e) before after r h s =
    let q = h.0 in
    let l = lays_standing g e before after q h.1.0 s in
    record {
      answer = h.1.1 ∙ ap entered (lay_answer_is g before e after q l.lays);
      left = lay_stands g before e after q l.lays;
      stands = l.stands;
    }
logged g take_back before after r h s =
    let q = h.0 in
    record {
      answer = h.1.1 ∙ ap taken_back (undo_answer_is before after q h.1.0);
      left = undo_stands before after q h.1.0;
      stands = undoes_standing g before after q h.1.0 s;
    }
logged g nothing before after r h s = record { answer = h.0; left = h.1; stands = subst (Standing g) (sym h.1) s }

-- on a layer
pub acts_on : {N : Type 0} (meaning : N → Net) (ask : Ask) (before after : Entries N) (r : Result (Unit {0}) ActRefusal) → after.below ≡ before.below
    → Asks (meaning before.below) ask (entries_of before.column) (entries_of after.column) r → ActsOn meaning ask before after r
acts_on meaning ask before after r below asks =
    record {
      below = below;
      asks = asks;
      logged = logged (meaning before.below) ask (entries_of before.column) (entries_of after.column) r asks;
    }

module _ {N : Type 0} (meaning : N → Net) (before after : Entries N) where
  pub lays_on : (e : Entry) (q : Result (Unit {0}) LayRefusal) → LaysOn meaning e before after q → ActsOn meaning (enter e) before after (entered q)
  lays_on e q h = acts_on meaning (enter e) before after (entered q) h.below (q, (h.lays, refl))

  pub undoes_on : (q : Result Entry UndoRefusal) → UndoesOn before after q → ActsOn meaning take_back before after (taken_back q)
  undoes_on q h = acts_on meaning take_back before after (taken_back q) h.below (q, (h.undoes, refl))
