-- What laying and undoing answer, and the entries that stand then, are determined by the entries that stood, the lines and their bounds.
use Rattle.std.proofs.Common.{◌≡◌, ℕ, List, [], ◌∷◌, ◌++◌, length, Ok, Err, Result, sym, refl, ap, ◌∙◌, arith}
use Rattle.std.proofs.lemmas.List.{same_from_push, length_push}
use Rattle.layers.specs.Entries.{Accepted, LayRefused, Lays, Undoes}
use Rattle.layers.specs.declared.entries.LayRefusal.{LayRefusal}
use Rattle.layers.specs.declared.entries.LayRefusal.TheVariants.{NoLine, OutOfBounds, Full}
use Rattle.layers.specs.declared.entries.UndoRefusal.{UndoRefusal}
use Rattle.layers.specs.declared.entries.UndoRefusal.TheVariants.{NoEntry}
use Rattle.layers.specs.declared.entry.Bounds.{Bounds}
use Rattle.layers.specs.declared.entry.Entry.{Entry}

module _ (lines : ℕ) (bounds : ℕ → Bounds) (e : Entry) where
  accepted_refused : (n : ℕ) (x : LayRefusal) → Accepted lines bounds n e → LayRefused lines bounds n e x → ⊥
  accepted_refused n NoLine a r = omega (arith, a.there, r)
  accepted_refused n OutOfBounds a r = r.1 a.within
  accepted_refused n Full a r = omega (arith, a.room, r.2)

  refused_once : (n : ℕ) (x y : LayRefusal) → LayRefused lines bounds n e x → LayRefused lines bounds n e y → x ≡ y
  refused_once n NoLine NoLine r s = refl
  refused_once n NoLine OutOfBounds r s = let never : ⊥ = omega (arith, r, s.0) in absurd never
  refused_once n NoLine Full r s = let never : ⊥ = omega (arith, r, s.0) in absurd never
  refused_once n OutOfBounds NoLine r s = let never : ⊥ = omega (arith, r.0, s) in absurd never
  refused_once n OutOfBounds OutOfBounds r s = refl
  refused_once n OutOfBounds Full r s = absurd (r.1 s.1)
  refused_once n Full NoLine r s = let never : ⊥ = omega (arith, r.0, s) in absurd never
  refused_once n Full OutOfBounds r s = absurd (s.1 r.1)
  refused_once n Full Full r s = refl

  pub lays_once : (before after after' : List Entry) (r r' : Result (Unit {0}) LayRefusal) → Lays lines bounds e before after r → Lays lines bounds e before after' r' → (r ≡ r') × (after ≡ after')
  lays_once before after after' (Ok _) (Ok _) h k = (refl, h.1 ∙ sym k.1)
  lays_once before after after' (Ok _) (Err y) h k = absurd (accepted_refused (length before) y h.0 k.0)
  lays_once before after after' (Err x) (Ok _) h k = absurd (accepted_refused (length before) x k.0 h.0)
  lays_once before after after' (Err x) (Err y) h k = (ap Err (refused_once (length before) x y h.0 k.0), h.1 ∙ sym k.1)

none_or_more : (before after : List Entry) (e : Entry) → before ≡ [] → before ≡ after ++ e ∷ [] → ⊥
none_or_more before after e none more = omega (arith, ap length (sym none ∙ more), length_push after e)

pub undoes_once : (before after after' : List Entry) (r r' : Result Entry UndoRefusal) → Undoes before after r → Undoes before after' r' → (r ≡ r') × (after ≡ after')
undoes_once before after after' (Ok e) (Ok f) h k =
    let same = same_from_push after after' e f (sym h ∙ k) in
    (ap Ok same.1, same.0)
undoes_once before after after' (Ok e) (Err NoEntry) h k = absurd (none_or_more before after e k.0 h)
undoes_once before after after' (Err NoEntry) (Ok f) h k = absurd (none_or_more before after' f h.0 k)
undoes_once before after after' (Err NoEntry) (Err NoEntry) h k = (refl, h.1 ∙ sym k.1)
