-- Lawful under entries, for any network: lawful, and each entry's line carries what the entry asks.
use Rattle.std.proofs.Common.{◌≡◌, ℕ, zero, suc, ◌<◌, ◌≤◌, Bool, cond, eqb, List, [], ◌∷◌, length, get_or, sym, refl, ap, ◌∙◌, subst, arith}
use Rattle.std.proofs.lemmas.Bool.Decides.{nat_tests}
use Rattle.network.specs.Net.{Net, size, line, tail, head}
use Rattle.network.specs.Flow.{at, over, Lawful}
use Rattle.network.specs.Sum.{upto}
use Rattle.flows.proofs.Sums.{upto_same}
use Rattle.layers.specs.Entries.{Inside, bounds_of, bounded}
use Rattle.layers.specs.Named.{no_entry}
use Rattle.layers.specs.Present.{highest, lowest, amounts, present_of, present, present_net}
use Rattle.layers.specs.declared.entry.Bound.{Bound}
use Rattle.layers.specs.declared.entry.Bound.TheVariants.{AtLeast, AtMost}
use Rattle.layers.specs.declared.entry.Bounds as entry
use Rattle.layers.specs.declared.entry.Entry.{Entry}
use Rattle.layers.specs.Under.{size_bounded, line_bounded}
use Rattle.solutions.specs.Obeyed.{Bounds}

-- each of the entries on a line asks so of an amount
abbrev pub AskedOf : List Entry → ℕ → ℕ → Type 0
AskedOf es k x =
    (i : ℕ) → i < length es → (get_or es i no_entry).line ≡ k → Bounds (get_or es i no_entry).bound (get_or es i no_entry).amount x

-- an amount within the present bounds is one within the bounds below that every entry on the line allows
module _ (k x : ℕ) where
  first : (b : entry.Bounds) (e : Entry) (es : List Entry) → present_of b (e ∷ es) k ≡ present_of (present_of b (e ∷ []) k) es k
  first b e es = grind (arith, nat_tests)

  one_asks : (b : entry.Bounds) (n : ℕ) (kind : Bound) (a : ℕ) → Inside (present_of b (record { line = n; bound = kind; amount = a } ∷ []) k) x → Inside b x × (n ≡ k → Bounds kind a x)
  one_asks b n AtLeast a h = (record { low = grind (arith, nat_tests, h.low); high = h.high }, λ e. grind (arith, nat_tests, h.low))
  one_asks b n AtMost a h = (record { low = h.low; high = grind (arith, nat_tests, h.high) }, λ e. grind (arith, nat_tests, h.high))

  one_allows : (b : entry.Bounds) (n : ℕ) (kind : Bound) (a : ℕ) → Inside b x → (n ≡ k → Bounds kind a x) → Inside (present_of b (record { line = n; bound = kind; amount = a } ∷ []) k) x
  one_allows b n AtLeast a h asks = record { low = grind (arith, nat_tests, h.low, asks); high = h.high }
  one_allows b n AtMost a h asks = record { low = h.low; high = grind (arith, nat_tests, h.high, asks) }

  pub asked_inside : (b : entry.Bounds) (es : List Entry) → Inside (present_of b es k) x → Inside b x × AskedOf es k x
  asked_inside b [] h = (h, λ i l. absurd (omega arith))
  asked_inside b (e ∷ es) h =
      let rest = asked_inside (present_of b (e ∷ []) k) es (rw (first b e es) at h) in
      let one = one_asks b e.line e.bound e.amount rest.0 in
      (one.0, elim [ zero ↦ λ l. one.1 | suc i ↦ λ l. rest.1 i (omega arith) ])

  pub inside_asked : (b : entry.Bounds) (es : List Entry) → Inside b x → AskedOf es k x → Inside (present_of b es k) x
  inside_asked b [] h asked = h
  inside_asked b (e ∷ es) h asked =
      rw (first b e es) (inside_asked (present_of b (e ∷ []) k) es (one_allows b e.line e.bound e.amount h (asked 0 (omega arith))) (λ i l. asked (suc i) (omega arith)))

-- what all entries on a line ask is what its present bounds ask
pub above_highest : (l k x : ℕ) (es : List Entry) → l ≤ x → AskedOf es k x → highest l (amounts AtLeast k es) ≤ x
above_highest l k x es low h = (inside_asked k x (record { least = l; most = x }) es (record { low = low; high = omega arith }) h).low

pub below_lowest : (m k x : ℕ) (es : List Entry) → x ≤ m → AskedOf es k x → x ≤ lowest m (amounts AtMost k es)
below_lowest m k x es high h = (inside_asked k x (record { least = x; most = m }) es (record { low = omega arith; high = high }) h).high

pub asked_by_bounds : (l m k x : ℕ) (es : List Entry) → highest l (amounts AtLeast k es) ≤ x → x ≤ lowest m (amounts AtMost k es) → AskedOf es k x
asked_by_bounds l m k x es low high = (asked_inside k x (record { least = l; most = m }) es (record { low = low; high = high })).1

module _ (g : Net) (es : List Entry) where
  size_present : size (present_net g es) ≡ size g
  size_present = size_bounded g (present g es)

  line_present : (k : ℕ) → k < size g → line (present_net g es) k ≡ bounded (line g k) (present g es k)
  line_present = line_bounded g (present g es)

  -- ends are as below, so what is summed by ends is too
  sums_same : (end : ℕ → ℕ → Bool) (f : ℕ → ℕ) → over (present_net g es) (λ l. end (tail l) (head l)) f ≡ over g (λ l. end (tail l) (head l)) f
  sums_same end f =
      ap (λ n. upto n (λ i. cond (end (tail (line (present_net g es) i)) (head (line (present_net g es) i))) (f i) 0)) size_present
      ∙ upto_same (size g) (λ i. cond (end (tail (line (present_net g es) i)) (head (line (present_net g es) i))) (f i) 0) (λ i. cond (end (tail (line g i)) (head (line g i))) (f i) 0) (λ i h. ap (λ l. cond (end (tail l) (head l)) (f i) 0) (line_present i h))

  -- a flow that is lawful under entries is lawful, and each entry's line carries what the entry asks
  module _ (f : List ℕ) where
    module _ (law : Lawful (present_net g es) f) where
      within : (k : ℕ) → k < size g → Inside (bounds_of (line g k)) (at f k) × AskedOf es k (at f k)
      within k h =
          let there : k < size (present_net g es) = omega (arith, size_present) in
          asked_inside k (at f k) (bounds_of (line g k)) es (record { low = rw (line_present k h) at (law.low k there); high = rw (line_present k h) at (law.high k there) })

      pub lawful_below : Lawful g f
      lawful_below = record {
        long = law.long ∙ size_present;
        low = λ k h. (within k h).0.low;
        high = λ k h. (within k h).0.high;
        kept = λ v h. sym (sums_same (λ _ head. eqb head v) (at f)) ∙ law.kept v h ∙ sums_same (λ tail _. eqb tail v) (at f);
      }

      pub entries_asked : (i : ℕ) → i < length es → (get_or es i no_entry).line < size g → Bounds (get_or es i no_entry).bound (get_or es i no_entry).amount (at f (get_or es i no_entry).line)
      entries_asked i h inside = (within (get_or es i no_entry).line inside).1 i h refl

    pub lawful_above : Lawful g f → ((i : ℕ) → i < length es → Bounds (get_or es i no_entry).bound (get_or es i no_entry).amount (at f (get_or es i no_entry).line)) → Lawful (present_net g es) f
    lawful_above law asked =
        let inside : (k : ℕ) → k < size g → Inside (present g es k) (at f k) = λ k l. inside_asked k (at f k) (bounds_of (line g k)) es (record { low = law.low k l; high = law.high k l }) (λ i h e. subst (λ n. Bounds (get_or es i no_entry).bound (get_or es i no_entry).amount (at f n)) e (asked i h)) in
        record {
          long = law.long ∙ sym size_present;
          low = λ k h. let l : k < size g = omega (arith, size_present) in rw (line_present k l) (inside k l).low;
          high = λ k h. let l : k < size g = omega (arith, size_present) in rw (line_present k l) (inside k l).high;
          kept = λ v h. sums_same (λ _ head. eqb head v) (at f) ∙ law.kept v h ∙ sym (sums_same (λ tail _. eqb tail v) (at f));
        }
