-- The byte of a part, from what the part's pairs carry.
use Rattle.std.proofs.Common.{◌≡◌, ℕ, zero, suc, ◌+◌, ◌<◌, ◌≤◌, Bool, true, false, cond, not, eqb, ltb, ◌⊎◌, sym, refl, ap, ◌∙◌, subst, inl, inr, arith}
use Rattle.std.proofs.lemmas.Bool.{cond-true, cond-false, cases_eq, cases_lt}
use Rattle.std.proofs.lemmas.Bool.Decides.{nat_tests}
use Rattle.network.specs.Sum.{upto}
use Rattle.flows.proofs.Sums.{upto_part, upto_zero}
use Rattle.series.specs.Numbering.{unsigned}
use Rattle.solutions.specs.Carried.{lowest_of}
use Rattle.solutions.proofs.Tests.{one}

-- the lowest number that passes
pub lowest_none : (m : ℕ) (test : ℕ → Bool) (none : ℕ) → ((s : ℕ) → s < m → test s ≡ false) → lowest_of m test none ≡ none
lowest_none zero test none h = refl
lowest_none (suc m) test none h =
    ap (lowest_of m test) (cond-false (test m) m none (h m (omega arith))) ∙ lowest_none m test none (λ s l. h s (omega arith))

pub lowest_found : (m : ℕ) (test : ℕ → Bool) (none b : ℕ) → b < m → test b ≡ true → ((s : ℕ) → s < b → test s ≡ false) → lowest_of m test none ≡ b
lowest_found zero test none b l passes below = absurd (omega arith)
lowest_found (suc m) test none b l passes below =
    elim (cases_eq b m) [
      | inl e ↦
          ap (lowest_of m test) (cond-true (test m) m none (subst (λ k. test k ≡ true) e passes))
          ∙ lowest_none m test m (λ s k. below s (omega arith))
          ∙ sym e
      | inr d ↦ lowest_found m test (cond (test m) m none) b (omega arith) passes below
    ]

-- the first place that carries something, or none does
pub first_above : (m : ℕ) (a : ℕ → ℕ) → ((s : ℕ) → s < m → a s ≡ 0) ⊎ ((b : ℕ) × (b < m) × (0 < a b) × ((s : ℕ) → s < b → a s ≡ 0))
first_above zero a = inl (λ s l. absurd (omega arith))
first_above (suc m) a =
    elim (first_above m a) [
      | inr found ↦ inr (found.0, omega (arith, found.1), found.2, found.3)
      | inl none ↦
          elim (cases_lt 0 (a m)) [
            | inl above ↦ inr (m, omega arith, above, none)
            | inr not-above ↦ inl (λ s l. elim (cases_eq s m) [ inl e ↦ ap a e ∙ omega arith | inr d ↦ none s (omega arith) ])
          ]
    ]

-- of two places both count in the sum
pub two_parts : (m : ℕ) (a : ℕ → ℕ) (b s : ℕ) → b < m → s < m → (s ≡ b → ⊥) → a s + a b ≤ upto m a
two_parts zero a b s l k d = absurd (omega arith)
two_parts (suc m) a b s l k d = grind (arith, upto_part m b a, upto_part m s a, two_parts m a b s)

-- A byte that says what the pairs of its part carry, 1 over at most one of them.
pub record Chosen (m : ℕ) (a : ℕ → ℕ) (b : ℕ) : Type 0 where
  pub known : (b < m) ⊎ (b ≡ unsigned)
  pub carries : (s : ℕ) → s < m → one (eqb b s) ≡ a s
  pub signs : one (not (eqb b unsigned)) ≡ upto m a

-- a byte counts once among the signs if it is one of them
counted_once : (m b : ℕ) → upto m (λ s. one (eqb b s)) ≡ one (ltb b m)
counted_once zero b = grind (arith, nat_tests)
counted_once (suc m) b = grind (arith, nat_tests, counted_once m b)

module _ (m : ℕ) (few : m ≤ 64) where
  pub byte_sum : (b : ℕ) → (b < m) ⊎ (b ≡ unsigned) → upto m (λ s. one (eqb b s)) ≡ one (not (eqb b unsigned))
  byte_sum b known = grind (arith, nat_tests, counted_once m b)

  module _ (a : ℕ → ℕ) (small : upto m a ≤ 1) (test : ℕ → Bool) (tests : (s : ℕ) → s < m → test s ≡ ltb 0 (a s)) where
    nothing : ((s : ℕ) → s < m → a s ≡ 0) → Chosen m a unsigned
    nothing none = record {
      known = inr refl;
      carries = λ s l. grind (arith, nat_tests, none s l);
      signs = sym (upto_zero m a none);
    }

    something : (b : ℕ) → b < m → 0 < a b → Chosen m a b
    something b l above = record {
      known = inl l;
      carries = λ s k. grind (arith, nat_tests, upto_part m b a l, two_parts m a b s);
      signs = grind (arith, nat_tests, upto_part m b a l);
    }

    pub lowest_chosen : Chosen m a (lowest_of m test unsigned)
    lowest_chosen =
        elim (first_above m a) [
          | inl none ↦
              rw (lowest_none m test unsigned (λ s l. grind (arith, nat_tests, tests s l, none s l))) (nothing none)
          | inr found ↦
              rw (lowest_found m test unsigned found.0 found.1 (grind (arith, nat_tests, tests found.0 found.1, found.2)) (λ s l. grind (arith, nat_tests, found.1, tests s, found.3 s l))) (something found.0 found.1 found.2)
        ]

  -- two bytes that say the same are the same
  pub same_byte : (a : ℕ → ℕ) (b c : ℕ) → Chosen m a b → (c < m) ⊎ (c ≡ unsigned) → ((s : ℕ) → s < m → one (eqb c s) ≡ a s) → one (not (eqb c unsigned)) ≡ upto m a → b ≡ c
  same_byte a b c chosen known carries signs = grind (arith, nat_tests, chosen.signs, chosen.carries c, carries c)
