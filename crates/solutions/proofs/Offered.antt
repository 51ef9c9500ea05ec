-- What fixed and free lines say of lawful numberings under entries.
use Rattle.std.proofs.Common.{◌≡◌, ℕ, ◌<◌, ◌≤◌, eqb, List, sym, ap, ◌∙◌, inl, inr, arith}
use Rattle.std.proofs.lemmas.Bool.{cases_lt}
use Rattle.std.proofs.lemmas.Bool.Decides.{nat_tests}
use Rattle.network.specs.Net.{Net}
use Rattle.network.specs.Flow.{at, Lawful, Fixed, Free}
use Rattle.layers.specs.Present as present
use Rattle.layers.specs.Present.{present_net}
use Rattle.layers.specs.declared.entry.Entry.{Entry}
use Rattle.series.specs.Job.{Job, part_count, sign_count, whole_net}
use Rattle.series.specs.Key.{pair_place, key_of}
use Rattle.series.specs.Limits.{Held}
use Rattle.series.specs.Numbering.{byte_at, unsigned}
use Rattle.solutions.specs.Carried.{flow_of, numbering_of}
use Rattle.solutions.specs.Obeyed.{LawfulUnder}
use Rattle.solutions.specs.Offered.{SomeHas, NoneHas, SomeSigns, NoneSigns, Offers}
use Rattle.solutions.specs.Solution.{set_of}
use Rattle.solutions.proofs.Obeyed.{flow_under, forth_under, numbering_under}
use Rattle.solutions.proofs.Tests.{one, one_le}
use Rattle.solutions.proofs.ToFlow.{carries_part, carries_pair}

module _ (job : Job) (lo hi : ℕ) (es : List Entry) (held : Held job) (standing : present.Standing (whole_net job lo hi) es) where
  abbrev g : Net
  g = present_net (whole_net job lo hi) es

  -- what the flow of a numbering carries over a fixed line
  module _ (bytes : List ℕ) (law : LawfulUnder job lo hi es bytes) where
    pair_fixed : (p s x : ℕ) → p < part_count job → s < sign_count job → Fixed g (pair_place job p s) x → one (eqb (byte_at bytes p) s) ≡ x
    pair_fixed p s x h k fixed =
        sym (carries_pair job bytes p s h k) ∙ fixed (flow_of job bytes) (flow_under job lo hi es held standing bytes law)

    part_fixed : (p x : ℕ) → p < part_count job → Fixed g p x → one (set_of bytes p) ≡ x
    part_fixed p x h fixed =
        sym (carries_part job bytes p h) ∙ fixed (flow_of job bytes) (flow_under job lo hi es held standing bytes law)

  -- the numbering of a lawful flow, and what it says of the flow
  module _ (f : List ℕ) (law : Lawful g f) where
    under : LawfulUnder job lo hi es (numbering_of (key_of job) f)
    under = numbering_under job lo hi es held standing f law

    pair_says : (p s : ℕ) → p < part_count job → s < sign_count job → one (eqb (byte_at (numbering_of (key_of job) f) p) s) ≡ at f (pair_place job p s)
    pair_says p s h k =
        sym (carries_pair job (numbering_of (key_of job) f) p s h k) ∙ ap (λ x. at x (pair_place job p s)) (forth_under job lo hi es held standing f law)

    part_says : (p : ℕ) → p < part_count job → one (set_of (numbering_of (key_of job) f) p) ≡ at f p
    part_says p h =
        sym (carries_part job (numbering_of (key_of job) f) p h) ∙ ap (λ x. at x p) (forth_under job lo hi es held standing f law)

    carried : (p s : ℕ) → p < part_count job → s < sign_count job → 0 < at f (pair_place job p s) → SomeHas job lo hi es p s
    carried p s h k above = (numbering_of (key_of job) f, (under, grind (arith, nat_tests, pair_says p s h k)))

    signs : (p : ℕ) → p < part_count job → 0 < at f p → SomeSigns job lo hi es p
    signs p h above = (numbering_of (key_of job) f, (under, λ e. grind (arith, nat_tests, part_says p h)))

    unsigns : (p : ℕ) → p < part_count job → at f p ≤ 0 → SomeHas job lo hi es p unsigned
    unsigns p h none = (numbering_of (key_of job) f, (under, grind (arith, nat_tests, part_says p h)))

    part_small : (p : ℕ) → p < part_count job → at f p ≤ 1
    part_small p h = omega (arith, part_says p h, one_le (set_of (numbering_of (key_of job) f) p))

  shut : (p s : ℕ) → p < part_count job → s < sign_count job → Fixed g (pair_place job p s) 0 → NoneHas job lo hi es p s
  shut p s h k fixed bytes law e = grind (arith, nat_tests, pair_fixed bytes law p s 0 h k fixed)

  -- of two lawful flows that differ on a line, one carries something over it
  loose : (p s : ℕ) → p < part_count job → s < sign_count job → (f : List ℕ) → Lawful g f → Free g (pair_place job p s) (at f (pair_place job p s)) → SomeHas job lo hi es p s
  loose p s h k f law free =
      let differs = free.1.1 in
      elim (cases_lt 0 (at f (pair_place job p s))) [
        | inl above ↦ carried f law p s h k above
        | inr none ↦ carried free.0 free.1.0 p s h k (omega arith)
      ]

  always : (p : ℕ) → p < part_count job → Fixed g p 1 → NoneHas job lo hi es p unsigned
  always p h fixed bytes law e = grind (arith, nat_tests, part_fixed bytes law p 1 h fixed)

  never : (p : ℕ) → p < part_count job → Fixed g p 0 → NoneSigns job lo hi es p
  never p h fixed bytes law = grind (arith, nat_tests, part_fixed bytes law p 0 h fixed)

  -- of two lawful flows that differ on a part's line, one signs the part and one does not
  sometimes : (p : ℕ) → p < part_count job → (f : List ℕ) → Lawful g f → Free g p (at f p) → SomeSigns job lo hi es p × SomeHas job lo hi es p unsigned
  sometimes p h f law free =
      let other = free.0 in
      let lawful = free.1.0 in
      let differs = free.1.1 in
      let one_f = part_small f law p h in
      let one_other = part_small other lawful p h in
      elim (cases_lt 0 (at f p)) [
        | inl above ↦ (signs f law p h above, unsigns other lawful p h (omega arith))
        | inr none ↦ (signs other lawful p h (omega arith), unsigns f law p h none)
      ]

  pub offers : Offers job lo hi es
  offers = record {
    shut = shut;
    carried = λ p s h k f law above. carried f law p s h k above;
    loose = loose;
    always = always;
    never = never;
    sometimes = sometimes;
  }
