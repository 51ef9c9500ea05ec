-- Listings of networks of the same meaning are the same bytes.
use Rattle.std.proofs.Common.{◌≡◌, ℕ, zero, suc, ◌<◌, Bool, cond, List, [], ◌∷◌, ◌++◌, length, get_or, Some, None, Decides, Option, sym, refl, ap, ◌∙◌, subst, arith}
use Rattle.std.proofs.lemmas.Bool.Decides.{same_from_decides, Decides-like}
use Rattle.contents.specs.Labels.{Labelled}
use Rattle.network.specs.Net.{Net, Same}
use Rattle.network.specs.Key.{Key}
use Rattle.flows.proofs.Same.{same_sym, fixed_same}
use Rattle.rendering.specs.Render.{Table, in_order, mark, sign_text, part_text, render}
use Rattle.listing.specs.Shows.{FixedOn, Shows, Matching, SameKey, SameMeaningSameListing}

in_order_same : (n : ℕ) (f h : ℕ → List ℕ) → ((k : ℕ) → k < n → f k ≡ h k) → in_order n f ≡ in_order n h
in_order_same zero f h e = refl
in_order_same (suc n) f h e =
    ap (λ xs. xs ++ f n) (in_order_same n f h (λ k l. e k (omega arith))) ∙ ap (λ x. in_order n h ++ x) (e n (omega arith))

fixed_on_same : {g h : Net} → Same g h → (o : Option ℕ) (x : ℕ) → FixedOn g o x → FixedOn h o x
fixed_on_same s None x f = f
fixed_on_same s (Some l) x f = fixed_same s l x f

-- tests that decide the same
decided_same : {g h : Net} → Same g h → (o : Option ℕ) (x : ℕ) (r q : Bool) → Decides r (FixedOn g o x) → Decides q (FixedOn h o x) → r ≡ q
decided_same s o x r q a b =
    same_from_decides r q (Decides-like r (fixed_on_same s o x) (fixed_on_same (same_sym s) o x) a) b

denied_same : {g h : Net} → Same g h → (o : Option ℕ) (x : ℕ) (r q : Bool) → Decides r (FixedOn g o x → ⊥) → Decides q (FixedOn h o x → ⊥) → r ≡ q
denied_same s o x r q a b =
    same_from_decides r q (Decides-like r (λ no f. no (fixed_on_same (same_sym s) o x f)) (λ no f. no (fixed_on_same s o x f)) a) b

module _ (g h : Net) (key other : Key) (l : Labelled) (s : Same g h) (k : SameKey key other) (m : Matching key l) (t u : Table) (a : Shows g key t) (b : Shows h other u) where
  signed_same : (p : ℕ) → p < key.parts → t.signed p ≡ u.signed p
  signed_same p i =
      decided_same s (key.part_line p) 1 _ _ (a.signed p i) (subst (λ o. Decides (u.signed p) (FixedOn h o 1)) (sym (k.part_line p)) (b.signed p (omega (arith, k.parts))))

  unsigned_same : (p : ℕ) → p < key.parts → t.unsigned p ≡ u.unsigned p
  unsigned_same p i =
      decided_same s (key.part_line p) 0 _ _ (a.unsigned p i) (subst (λ o. Decides (u.unsigned p) (FixedOn h o 0)) (sym (k.part_line p)) (b.unsigned p (omega (arith, k.parts))))

  may_same : (p r : ℕ) → p < key.parts → r < key.signs → t.may p r ≡ u.may p r
  may_same p r i j =
      denied_same s (key.pair_line p r) 0 _ _ (a.may p r i j) (subst (λ o. Decides (u.may p r) (FixedOn h o 0 → ⊥)) (sym (k.pair_line p r)) (b.may p r (omega (arith, k.parts)) (omega (arith, k.signs))))

  mark_same : (p : ℕ) → p < key.parts → mark t p ≡ mark u p
  mark_same p i =
      ap (λ c. cond c 33 (cond (t.unsigned p) 45 63)) (signed_same p i) ∙ ap (λ c. cond (u.signed p) 33 (cond c 45 63)) (unsigned_same p i)

  signs_same : (p : ℕ) → p < key.parts → in_order (length l.texts) (sign_text l t p) ≡ in_order (length l.texts) (sign_text l u p)
  signs_same p i =
      in_order_same (length l.texts) (sign_text l t p) (sign_text l u p) (λ r j. ap (λ c. cond c (32 ∷ get_or l.texts r []) []) (may_same p r i (omega (arith, m.signs))))

  part_same : (p : ℕ) → p < key.parts → part_text l t p ≡ part_text l u p
  part_same p i =
      ap (λ c. get_or l.names p [] ++ (32 ∷ []) ++ (c ∷ []) ++ in_order (length l.texts) (sign_text l t p) ++ (10 ∷ [])) (mark_same p i)
      ∙ ap (λ x. get_or l.names p [] ++ (32 ∷ []) ++ (mark u p ∷ []) ++ x ++ (10 ∷ [])) (signs_same p i)

  pub render_same : render l t ≡ render l u
  render_same =
      in_order_same (length l.names) (part_text l t) (part_text l u) (λ p i. part_same p (omega (arith, m.parts)))

pub same_listing : SameMeaningSameListing
same_listing g h key other l a b s k x y =
    x.text ∙ render_same g h key other l s k x.matching x.table y.table x.shows y.shows ∙ sym y.text
