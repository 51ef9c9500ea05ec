-- A numbering obeys an entry exactly if its flow carries what the entry asks.
use Rattle.std.proofs.Common.{◌≡◌, ℕ, zero, suc, ◌+◌, ◌<◌, Bool, true, false, not, eqb, List, length, get_or, sym, refl, ap, ◌∙◌, subst, inl, inr, arith}
use Rattle.std.proofs.lemmas.Bool.{cases_Bool, eqb-true, eqb-false}
use Rattle.std.proofs.lemmas.Bool.Decides.{nat_tests}
use Rattle.network.specs.Flow.{at, Lawful}
use Rattle.network.specs.declared.role.Role.{Role}
use Rattle.network.specs.declared.role.Role.TheVariants.{Standing, Pair, Count, Other}
use Rattle.layers.specs.Named.{no_entry}
use Rattle.layers.specs.Present as present
use Rattle.layers.specs.Present.{present_net}
use Rattle.layers.specs.declared.entry.Bound.{Bound}
use Rattle.layers.specs.declared.entry.Bound.TheVariants.{AtLeast, AtMost}
use Rattle.layers.specs.declared.entry.Entry.{Entry}
use Rattle.series.specs.Job.{Job, line_count, whole_net}
use Rattle.series.specs.Key.{role_at, key_of}
use Rattle.series.specs.Limits.{Held}
use Rattle.series.specs.Numbering.{byte_at, unsigned}
use Rattle.solutions.specs.Carried.{carried, flow_of, numbering_of}
use Rattle.solutions.specs.Obeyed.{Settles, Bounds, Asks, Obeys, LawfulUnder}
use Rattle.solutions.specs.Theorems.{FlowsToldUnder}
use Rattle.solutions.proofs.Entries.{lawful_below, lawful_above, entries_asked}
use Rattle.solutions.proofs.FromFlow.{numbering_lawful, flow_back}
use Rattle.solutions.proofs.Lines.{size_whole}
use Rattle.solutions.proofs.Tests.{one, one_le, one_true, one_false}
use Rattle.solutions.proofs.ToFlow.{flow_lawful, amount}

-- something that a test decides, as 1 or 0 and as so or not so
module _ (test : Bool) (P : Type 0) (so : test ≡ true → P) (not_so : test ≡ false → P → ⊥) where
  settled : (kind : Bound) (x : ℕ) → Bounds kind x (one test) → Settles kind x P
  settled AtLeast zero h = tt
  settled AtLeast (suc zero) h = so (one_true test h)
  settled AtLeast (suc (suc x)) h = omega (arith, one_le test)
  settled AtMost zero h = not_so (one_false test h)
  settled AtMost (suc x) h = tt

  carries_settled : (kind : Bound) (x : ℕ) → Settles kind x P → Bounds kind x (one test)
  carries_settled AtLeast zero h = omega arith
  carries_settled AtLeast (suc zero) h = elim (cases_Bool test) [ inl e ↦ grind (arith, e) | inr e ↦ absurd (not_so e h) ]
  carries_settled AtLeast (suc (suc x)) h = absurd h
  carries_settled AtMost zero h = elim (cases_Bool test) [ inl e ↦ absurd (h (so e)) | inr e ↦ grind (arith, e) ]
  carries_settled AtMost (suc x) h = omega (arith, one_le test)

-- what an entry asks of a numbering is what it asks of the amount that the numbering carries
module _ (bytes : List ℕ) where
  pub asks_from_carried : (kind : Bound) (x : ℕ) (r : Role) → Bounds kind x (carried bytes r) → Asks bytes kind x r
  asks_from_carried kind x (Standing p) h =
      settled (not (eqb (byte_at bytes p) unsigned)) (byte_at bytes p ≡ unsigned → ⊥) (λ e. grind (arith, nat_tests, e)) (λ e d. d (grind (arith, nat_tests, e))) kind x h
  asks_from_carried kind x (Pair p s) h =
      settled (eqb (byte_at bytes p) s) (byte_at bytes p ≡ s) (eqb-true _ _) (eqb-false _ _) kind x h
  asks_from_carried kind x (Count s) h = h
  asks_from_carried kind x Other h = h

  pub carried_from_asks : (kind : Bound) (x : ℕ) (r : Role) → Asks bytes kind x r → Bounds kind x (carried bytes r)
  carried_from_asks kind x (Standing p) h =
      carries_settled (not (eqb (byte_at bytes p) unsigned)) (byte_at bytes p ≡ unsigned → ⊥) (λ e. grind (arith, nat_tests, e)) (λ e d. d (grind (arith, nat_tests, e))) kind x h
  carried_from_asks kind x (Pair p s) h =
      carries_settled (eqb (byte_at bytes p) s) (byte_at bytes p ≡ s) (eqb-true _ _) (eqb-false _ _) kind x h
  carried_from_asks kind x (Count s) h = h
  carried_from_asks kind x Other h = h

module _ (job : Job) (lo hi : ℕ) (es : List Entry) (held : Held job) (standing : present.Standing (whole_net job lo hi) es) where
  there : (i : ℕ) → i < length es → (get_or es i no_entry).line < line_count job + 1
  there i h = omega (arith, (standing i h).there, size_whole job lo hi)

  pub flow_under : (bytes : List ℕ) → LawfulUnder job lo hi es bytes → Lawful (present_net (whole_net job lo hi) es) (flow_of job bytes)
  flow_under bytes law =
      lawful_above (whole_net job lo hi) es (flow_of job bytes) (flow_lawful job lo hi held bytes law.lawful) (λ i h. let e = get_or es i no_entry in subst (Bounds e.bound e.amount) (sym (amount job bytes e.line (role_at job e.line) (there i h) refl)) (carried_from_asks bytes e.bound e.amount (role_at job e.line) (law.obeys i h)))

  module _ (f : List ℕ) (law : Lawful (present_net (whole_net job lo hi) es) f) where
    below : Lawful (whole_net job lo hi) f
    below = lawful_below (whole_net job lo hi) es f law

    pub forth_under : flow_of job (numbering_of (key_of job) f) ≡ f
    forth_under = flow_back job held f lo hi below

    obeys : (i : ℕ) → i < length es → Obeys job (numbering_of (key_of job) f) (get_or es i no_entry)
    obeys i h =
        let e = get_or es i no_entry in
        let bytes = numbering_of (key_of job) f in
        let carries = sym (ap (λ x. at x e.line) forth_under) ∙ amount job bytes e.line (role_at job e.line) (there i h) refl in
        asks_from_carried bytes e.bound e.amount (role_at job e.line) (subst (Bounds e.bound e.amount) carries (entries_asked (whole_net job lo hi) es f law i h (standing i h).there))

    pub numbering_under : LawfulUnder job lo hi es (numbering_of (key_of job) f)
    numbering_under = record { lawful = numbering_lawful job held f lo hi below; obeys = obeys }

  pub flows_told_under : FlowsToldUnder job lo hi es
  flows_told_under = record { flow = flow_under; numbering = numbering_under; forth = forth_under }
