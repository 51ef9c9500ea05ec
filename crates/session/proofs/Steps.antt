-- One call on the layer is one call of the reference log.
use Rattle.std.proofs.Common.{◌≡◌, ◌+◌, ◌-◌, true, false, List, [], ◌∷◌, length, get_or, take, Some, Ok, Err, Result, sym, refl, ap, ◌∙◌, subst, ⊎_elim, arith}
use Rattle.std.proofs.Math.Seq.{take-nil}
use Rattle.std.proofs.lemmas.List.{length_push, take_at, get_or_push}
use Rattle.std.proofs.lemmas.Bool.{lt-ltb, le-ltb, le-leb, leb-true, and_from, and_parts, cases_Bool, cond-true, cond-false}
use Rattle.network.specs.Net.{Net, size}
use Rattle.layers.specs.Entries.{Inside, Accepted, LayRefused, Lays, Undoes}
use Rattle.layers.specs.Named.{no_entry}
use Rattle.layers.specs.Present.{present, present_net}
use Rattle.layers.specs.declared.entry.Entry.{Entry}
use Rattle.layers.specs.declared.entries.LayRefusal.{LayRefusal}
use Rattle.layers.specs.declared.entries.LayRefusal.TheVariants.{NoLine, OutOfBounds, Full}
use Rattle.layers.specs.declared.entries.UndoRefusal.{UndoRefusal}
use Rattle.layers.specs.declared.entries.UndoRefusal.TheVariants.{NoEntry}
use Rattle.sift.specs.Sifted.{Sifted}
use Rattle.sift.specs.declared.refusal.SiftRefusal.{SiftRefusal}
use Rattle.session.specs.Log.{in_bounds, lay_answer, undo_answer, joined, after_call}
use Rattle.session.specs.Promise.{held, Answered}
use Rattle.session.specs.declared.turn.Answer.TheVariants.{Laid, Undone, Sifted as Told}
use Rattle.session.specs.declared.turn.Buffers.{Buffers}
use Rattle.session.specs.declared.turn.Call.{Call}
use Rattle.session.specs.declared.turn.Call.TheVariants.{Lay, Undo, Sift}
use Rattle.session.specs.declared.turn.Turn.{Turn}

module _ (g : Net) (es : List Entry) (e : Entry) where
  bounds_hold : Inside (present g es e.line) e.amount → in_bounds g es e ≡ true
  bounds_hold h = and_from _ _ (le-leb _ _ h.low) (le-leb _ _ h.high)

  out_of_bounds : (Inside (present g es e.line) e.amount → ⊥) → in_bounds g es e ≡ false
  out_of_bounds outside =
      ⊎_elim (λ (t : in_bounds g es e ≡ true). let p = and_parts _ _ t in absurd (outside (record { low = leb-true _ _ p.0; high = leb-true _ _ p.1 }))) (λ (f : in_bounds g es e ≡ false). f) (cases_Bool (in_bounds g es e))

  lay_refusal : (x : LayRefusal) → LayRefused (size g) (present g es) (length es) e x → lay_answer g es e ≡ Err x
  lay_refusal NoLine h = cond-false _ _ _ (le-ltb _ _ h)
  lay_refusal OutOfBounds h = cond-true _ _ _ (lt-ltb _ _ h.0) ∙ cond-false _ _ _ (out_of_bounds h.1)
  lay_refusal Full h =
      cond-true _ _ _ (lt-ltb _ _ h.0) ∙ cond-true _ _ _ (bounds_hold h.1) ∙ cond-false _ _ _ (le-ltb _ _ h.2)

  lay_accepts : Accepted (size g) (present g es) (length es) e → lay_answer g es e ≡ Ok tt
  lay_accepts h =
      cond-true _ _ _ (lt-ltb _ _ h.there) ∙ cond-true _ _ _ (bounds_hold h.within) ∙ cond-true _ _ _ (lt-ltb _ _ h.room)

  pub lay_answer_is : (after : List Entry) (r : Result (Unit {0}) LayRefusal) → Lays (size g) (present g es) e es after r → r ≡ lay_answer g es e
  lay_answer_is after (Ok _) h = sym (lay_accepts h.0)
  lay_answer_is after (Err x) h = sym (lay_refusal x h.0)

  lay_joins : (after : List Entry) (r : Result (Unit {0}) LayRefusal) → Lays (size g) (present g es) e es after r → after ≡ joined es e r
  lay_joins after (Ok _) h = h.1
  lay_joins after (Err x) h = h.1

  pub lay_stands : (after : List Entry) (r : Result (Unit {0}) LayRefusal) → Lays (size g) (present g es) e es after r → after ≡ joined es e (lay_answer g es e)
  lay_stands after r h = lay_joins after r h ∙ ap (joined es e) (lay_answer_is after r h)

pub undo_answer_is : (es after : List Entry) (r : Result Entry UndoRefusal) → Undoes es after r → r ≡ undo_answer es
undo_answer_is es after (Ok e) h =
    let long : length es ≡ length after + 1 = ap length h ∙ length_push after e in
    let last : get_or es (length es - 1) no_entry ≡ e = ap (λ xs. get_or xs (length es - 1) no_entry) h ∙ get_or_push after e no_entry (length es - 1) (omega arith) in
    sym (cond-true _ _ _ (lt-ltb 0 (length es) (omega arith)) ∙ ap Ok last)
undo_answer_is es after (Err NoEntry) h =
    let none : length es ≡ 0 = ap length h.0 in sym (cond-false _ _ _ (le-ltb 0 (length es) (omega arith)))

pub undo_stands : (es after : List Entry) (r : Result Entry UndoRefusal) → Undoes es after r → after ≡ take (length es - 1) es
undo_stands es after (Ok e) h =
    let long : length es ≡ length after + 1 = ap length h ∙ length_push after e in
    sym (ap (take (length es - 1)) h ∙ take_at after (e ∷ []) (length es - 1) (omega arith))
undo_stands es after (Err NoEntry) h = h.1 ∙ h.0 ∙ sym (ap (λ xs. take (length es - 1) xs) h.0 ∙ take-nil (length es - 1))

-- A call that was made: what stands now, and its answer, are those of the reference log.
pub record Logged (g : Net) (es : List Entry) (call : Call) (after : List Entry) (t : Turn) : Type 0 where
  pub column : after ≡ after_call g es call
  pub answered : Answered g es call t

pub laid : (g : Net) (es after : List Entry) (call : Call) (e : Entry) (r : Result (Unit {0}) LayRefusal) → call ≡ Lay e
    → Lays (size g) (present g es) e es after r → Logged g es call after (record { call = Lay e; answer = Some (Laid r) })
laid g es after call e r is h =
    subst (λ x. Logged g es x after (record { call = Lay e; answer = Some (Laid r) })) (sym is) (record {
      column = lay_stands g es e after r h;
      answered = ap (λ x. record { call = Lay e; answer = Some (Laid x) }) (lay_answer_is g es e after r h);
    })

pub undone : (g : Net) (es after : List Entry) (call : Call) (r : Result Entry UndoRefusal) → call ≡ Undo
    → Undoes es after r → Logged g es call after (record { call = call; answer = Some (Undone r) })
undone g es after call r is h =
    subst (λ x. Logged g es x after (record { call = x; answer = Some (Undone r) })) (sym is) (record {
      column = undo_stands es after r h;
      answered = ap (λ x. record { call = Undo; answer = Some (Undone x) }) (undo_answer_is es after r h);
    })

pub sifted : (g : Net) (es after : List Entry) (call : Call) (b c : Buffers) (r : Result (Unit {0}) SiftRefusal) → call ≡ Sift b
    → after ≡ es → Sifted (present_net g es) (held b) (held c) r → Logged g es call after (record { call = Sift c; answer = Some (Told r) })
sifted g es after call b c r is same h =
    subst (λ x. Logged g es x after (record { call = Sift c; answer = Some (Told r) })) (sym is) (record {
      column = same;
      answered = record { buffers = c; answer = r; turn = refl; sifted = h };
    })
