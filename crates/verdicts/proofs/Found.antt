-- A node is found: it is marked, and listed unless it was marked before.
use Rattle.std.proofs.Common.{◌≡◌, ℕ, ◌+◌, ◌<◌, Bool, true, false, cond, ◌||◌, eqb, ltb, List, length, get_or, set, sym, refl, ap, ◌∙◌, subst, inl, inr, arith, below_more}
use Rattle.std.proofs.lemmas.List.{length-set, get_or-set_same, get_or-set_other}
use Rattle.std.proofs.lemmas.Bool.{and_parts, or_cases, or_left, or_right, eq-eqb, eqb-true, ltb-true, lt-ltb, cond-true}
use Rattle.std.proofs.lemmas.Bool.Decides.{nat_tests}
use Rattle.buffers.specs.Marks.{marked, blank, blanks}
use Rattle.buffers.proofs.Blanks.{marked_mark}
use Rattle.verdicts.specs.Search.{Found, Listed, Adds, reached}

abbrev found_of : ℕ → List ℕ → List ℕ → ℕ → Found
found_of nodes bytes cells len = record { nodes = nodes; bytes = bytes; cells = cells; len = len }

same_found : (t u : Found) → t.nodes ≡ u.nodes → t.bytes ≡ u.bytes → t.cells ≡ u.cells → t.len ≡ u.len → t ≡ u
same_found t u nodes bytes cells len =
    ap (λ x. found_of x t.bytes t.cells t.len) nodes ∙ ap (λ x. found_of u.nodes x t.cells t.len) bytes
    ∙ ap (λ x. found_of u.nodes u.bytes x t.len) cells
    ∙ ap (found_of u.nodes u.bytes u.cells) len

-- only nodes of the network are marked
pub marked_inside : (s : Found) (v : ℕ) {nodes : ℕ} → s.nodes ≡ nodes → reached s v ≡ true → v < nodes
marked_inside s v nodes e = omega (arith, ltb-true v s.nodes (and_parts (ltb v s.nodes) _ e).0)

-- node v marked, and listed too
abbrev pub marking : Found → ℕ → Found
marking s v = record { nodes = s.nodes; bytes = set s.bytes v 1; cells = s.cells; len = s.len }

abbrev pub listing : Found → ℕ → Found
listing s v = record { nodes = s.nodes; bytes = set s.bytes v 1; cells = set s.cells s.len v; len = s.len + 1 }

module _ (s : Found) (listed : Listed s) (v : ℕ) (inside : v < s.nodes) where
  -- the mark alone
  marks_it : (w : ℕ) → marked (set s.bytes v 1) s.nodes w ≡ (eqb w v || reached s w)
  marks_it w = marked_mark s.bytes s.nodes v w inside (omega (arith, listed.marks))

  pub adds_new : blanks (set s.bytes v 1) s.nodes + 1 ≡ blanks s.bytes s.nodes → Adds v s (listing s v)
  adds_new fewer =
      record {
        nodes = refl;
        listed =
            record {
              marks = length-set s.bytes v 1 ∙ listed.marks;
              places = length-set s.cells s.len v ∙ listed.places;
              once = omega (arith, listed.once);
              marked =
                  below_more _ _
                  (λ k h. marks_it _ ∙ or_right (eqb _ v) _ (ap (reached s) (stays k h) ∙ listed.marked k h))
                  (marks_it _ ∙ or_left (eqb _ v) _ (eq-eqb _ v last));
              listed = λ w e.
                  elim (or_cases (eqb w v) (reached s w) (sym (marks_it w) ∙ e)) [
                    | inl same ↦ record { place = s.len; below = omega arith; here = last ∙ sym (eqb-true w v same) }
                    | inr old ↦
                        let before = listed.listed w old in
                        record { place = before.place; below = omega (arith, before.below); here = stays before.place before.below ∙ before.here }
                  ];
            };
        found = marks_it;
        longer = omega arith;
        kept = stays;
      }
    where
      room : s.len < length s.cells
      room = omega (arith, listed.once, listed.places)

      last : get_or (set s.cells s.len v) s.len 0 ≡ v
      last = get_or-set_same s.cells s.len v 0 room

      stays : (k : ℕ) → k < s.len → get_or (set s.cells s.len v) k 0 ≡ get_or s.cells k 0
      stays k h = get_or-set_other s.cells s.len k v 0 (omega arith)

  pub adds_old : blanks (set s.bytes v 1) s.nodes ≡ blanks s.bytes s.nodes → blank s.bytes s.nodes v ≡ false → Adds v s (marking s v)
  adds_old same marks =
      record {
        nodes = refl;
        listed =
            record {
              marks = length-set s.bytes v 1 ∙ listed.marks;
              places = listed.places;
              once = omega (arith, listed.once);
              marked = λ k h. marks_it _ ∙ or_right (eqb _ v) _ (listed.marked k h);
              listed = λ w e.
                  let before =
                  listed.listed w
                  (elim (or_cases (eqb w v) (reached s w) (sym (marks_it w) ∙ e))
                  [ inl is ↦ ap (reached s) (eqb-true w v is) ∙ was | inr is ↦ is ])
                  in
                  record { place = before.place; below = before.below; here = before.here };
            };
        found = marks_it;
        longer = omega arith;
        kept = λ k h. refl;
      }
    where
      was : reached s v ≡ true
      was = grind (arith, nat_tests)

  -- the same as the marks and the list tell it: whether the node was blank, and whether there was a place for it
  module _ (t : Found) (fresh : Bool) (nodes : t.nodes ≡ s.nodes)
      (written : t.bytes ≡ cond (ltb v s.nodes) (set s.bytes v 1) s.bytes)
      (fewer : blanks t.bytes s.nodes + cond fresh 1 0 ≡ blanks s.bytes s.nodes)
    where
      bytes_are : t.bytes ≡ set s.bytes v 1
      bytes_are = written ∙ cond-true _ _ _ (lt-ltb v s.nodes inside)

      fewer_are : (b : Bool) → fresh ≡ b → blanks (set s.bytes v 1) s.nodes + cond b 1 0 ≡ blanks s.bytes s.nodes
      fewer_are b e = rw (← e, ← bytes_are) fewer

      pub told_new : fresh ≡ true → (ok : Bool) → ok ≡ ltb s.len (length s.cells) → t.len ≡ cond ok (s.len + 1) s.len
          → t.cells ≡ cond ok (set s.cells s.len v) s.cells → Adds v s t
      told_new e ok room len cells =
          let less = fewer_are true e in
          let places : ok ≡ true = room ∙ lt-ltb s.len (length s.cells) (omega (arith, listed.once, listed.places)) in
          let same = same_found t (listing s v) nodes bytes_are (cells ∙ cond-true _ _ _ places) (len ∙ cond-true _ _ _ places) in
          subst (Adds v s) (sym same) (adds_new less)

      pub told_old : fresh ≡ blank s.bytes s.nodes v → fresh ≡ false → t.len ≡ s.len → t.cells ≡ s.cells → Adds v s t
      told_old blank-is e len cells =
          let less = fewer_are false e in
          let same = same_found t (marking s v) nodes bytes_are cells len in
          subst (Adds v s) (sym same) (adds_old (omega arith) (sym blank-is ∙ e))
