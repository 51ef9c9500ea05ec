-- What the memory of an accepted sift shows is decided by the lawful flows.
use Rattle.std.proofs.Common.{◌≡◌, ℕ, ◌<◌, List, true, false, not, eqb, ltb, ◌≢◌, length, get_or, take, Some, None, Decides, Option, sym, ◌∙◌, subst, ⊎_elim, arith, get_or-take, length-take}
use Rattle.std.proofs.lemmas.Bool.{not-true, lt-ltb, and_from, and_parts, cases_eq, cases_lt, false≢true}
use Rattle.std.proofs.lemmas.List.{get_or_past}
use Rattle.std.proofs.lemmas.Bool.Decides.{Decides-not, Decides-eqb}
use Rattle.network.specs.Net.{Net, size}
use Rattle.network.specs.Key.{Key, Keyed, Finds}
use Rattle.network.specs.Flow.{at, Fixed, Free}
use Rattle.network.specs.declared.role.Role.{Role}
use Rattle.sift.specs.Sifted.{Accepted}
use Rattle.sift.specs.Workspace.{Workspace}
use Rattle.rendering.specs.Tables.{fixed_at, table_of}
use Rattle.listing.specs.Shows.{FixedOn, FreeOn, Shows}

-- a place that holds more than 0 lies within
inside_nonzero : (xs : List ℕ) (l : ℕ) → 0 < get_or xs l 0 → l < length xs
inside_nonzero xs l h = ⊎_elim (λ i. i) (λ past. absurd (omega (arith, h, get_or_past xs l 0 past))) (cases_lt l (length xs))

module _ (g : Net) (w : Workspace) (a : Accepted g w) where
  module _ (l : ℕ) (inside : l < size g) (x : ℕ) where
    shown : at (take (size g) w.flow) l ≡ at w.flow l
    shown = get_or-take (size g) w.flow l 0 inside

    from_test : fixed_at w.flow w.verdicts (Some l) x ≡ true → Fixed g l x
    from_test e =
        let p = (and_parts (ltb l (length w.verdicts)) _ e).1 in
        let q = and_parts (eqb (get_or w.verdicts l 0) 1) (eqb (at w.flow l) x) (and_parts (ltb l (length w.flow)) _ p).1 in
        let one = (Decides-eqb (get_or w.verdicts l 0) 1).0 q.0 in
        let here = (Decides-eqb (at w.flow l) x).0 q.1 in
        ⊎_elim (λ v. subst (Fixed g l) here v.1) (λ v. absurd (omega (arith, v.0, one))) (a.verdicts l inside)

    to_test : Fixed g l x → fixed_at w.flow w.verdicts (Some l) x ≡ true
    to_test h =
        let here : at w.flow l ≡ x = sym shown ∙ h (take (size g) w.flow) a.lawful in
        let f-inside : l < length w.flow = omega (arith, a.lawful.long, length-take (size g) w.flow) in
        ⊎_elim (λ v. and_from _ _ (lt-ltb _ _ (inside_nonzero w.verdicts l (omega (arith, v.0)))) (and_from _ _ (lt-ltb _ _ f-inside) (and_from _ _ ((Decides-eqb (get_or w.verdicts l 0) 1).1 v.0) ((Decides-eqb (at w.flow l) x).1 here)))) (λ v. absurd (v.1.1.1 (h v.1.0 v.1.1.0 ∙ sym here))) (a.verdicts l inside)

    line_decided : Decides (fixed_at w.flow w.verdicts (Some l) x) (Fixed g l x)
    line_decided = (from_test, to_test)

  -- a line that is not shown as fixed at 0 carries more in some lawful flow
  line_free : (l : ℕ) → l < size g → fixed_at w.flow w.verdicts (Some l) 0 ≡ false → Free g l 0
  line_free l inside shown-free =
      let same = shown l inside 0 in
      let amount = at w.flow l in
      ⊎_elim (λ (e : amount ≡ 0). ⊎_elim (λ v. absurd (false≢true (sym shown-free ∙ to_test l inside 0 (subst (Fixed g l) e v.1)))) (λ v. subst (Free g l) e v.1) (a.verdicts l inside)) (λ (ne : amount ≢ 0). (take (size g) w.flow, (a.lawful, λ z. ne (sym same ∙ z)))) (cases_eq amount 0)

  answer_free : (key : Key) (r : Role) (o : Option ℕ) → Finds g key r o → not (fixed_at w.flow w.verdicts o 0) ≡ true → FreeOn g o 0
  answer_free key r None h e = absurd h
  answer_free key r (Some l) h e = line_free l h.inside (not-true _ e)

  -- the line that a legend answers
  answer_decided : (key : Key) (r : Role) (o : Option ℕ) (x : ℕ) → Finds g key r o → Decides (fixed_at w.flow w.verdicts o x) (FixedOn g o x)
  answer_decided key r None x h = absurd h
  answer_decided key r (Some l) x h = line_decided l h.inside x

  pub table_shows : (key : Key) → Keyed g key → Shows g key (table_of key w.flow w.verdicts)
  table_shows key k = record {
    signed = λ p h. answer_decided key _ (key.part_line p) 1 (k.part p h);
    unsigned = λ p h. answer_decided key _ (key.part_line p) 0 (k.part p h);
    some = λ p s h i. answer_free key _ (key.pair_line p s) (k.pair p s h i);
    may = λ p s h i. Decides-not _ (answer_decided key _ (key.pair_line p s) 0 (k.pair p s h i));
  }
