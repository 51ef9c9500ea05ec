-- How what a search has found grows.
use Rattle.std.proofs.Common.{◌≡◌, ℕ, ◌<◌, Bool, true, ◌||◌, eqb, List, sym, refl, ap, ◌∙◌, inl, inr, arith}
use Rattle.std.proofs.lemmas.Bool.{cases_Bool, eq-eqb, eqb-true, ne_eqb, or_cases, or_left, or_right}
use Rattle.network.specs.Net.{Net, size}
use Rattle.network.specs.Flow.{at}
use Rattle.flows.specs.Trails.{Spread}
use Rattle.flows.proofs.Trails.{spread_more, stays_wider}
use Rattle.index.specs.Steps.{origin, target}
use Rattle.index.specs.declared.step.Step.{Step}
use Rattle.verdicts.specs.Search.{Adds, Found, Grows, Listed, passable, reached}
use Rattle.verdicts.proofs.Rows.{passable_other, passable_room}

-- a node that is found is reached, a node reached before is reached still, and no other is
module _ {v : ℕ} {s t : Found} (adds : Adds v s t) where
  pub adds_it : reached t v ≡ true
  adds_it = adds.found v ∙ or_left (eqb v v) _ (eq-eqb v v refl)

  pub adds_wider : (w : ℕ) → reached s w ≡ true → reached t w ≡ true
  adds_wider w e = adds.found w ∙ or_right (eqb w v) _ e

  pub adds_other : (w : ℕ) → (w ≡ v → ⊥) → reached t w ≡ reached s w
  adds_other w other = adds.found w ∙ ap (λ b. b || reached s w) (ne_eqb w v other)

module _ (g : Net) (f : List ℕ) (avoid : ℕ) where
  -- a set of the same nodes is reached as well
  spread_same : (R S : ℕ → Bool) → ((v : ℕ) → S v ≡ true → R v ≡ true) → ((v : ℕ) → R v ≡ true → S v ≡ true) → (a : ℕ)
      → Spread g 1 (at f) avoid a R → Spread g 1 (at f) avoid a S
  spread_same R S back wide a spread v e =
      let h = spread v (back v e) in
      record { steps = h.steps; trail = h.trail; avoids = h.avoids; stays = stays_wider g R S wide h.steps h.stays }

  -- the end of a step from a node that is reached is reached too
  pub spread_adds : (s t : Found) (step : Step) → step.line < size g → passable g f avoid step ≡ true → reached s (origin g step) ≡ true
      → Adds (target g step) s t → (a : ℕ) → Spread g 1 (at f) avoid a (reached s) → Spread g 1 (at f) avoid a (reached t)
  spread_adds s t step inside may from adds a spread =
      elim (cases_Bool (reached s (target g step))) [
        | inl old ↦
            spread_same (reached s) (reached t)
            (λ w e. elim (or_cases (eqb w (target g step)) (reached s w) (sym (adds.found w) ∙ e))
            [ inl same ↦ ap (reached s) (eqb-true w (target g step) same) ∙ old | inr h ↦ h ])
            (adds_wider adds) a spread
        | inr new ↦
            spread_more (reached s) (reached t) spread (step.line, step.direction) inside (passable_other g f avoid step may)
            (passable_room g f avoid step may) from new (adds_it adds) (adds_other adds)
      ]

  pub grows_none : (s : Found) → Listed s → Grows g f avoid s s
  grows_none s listed =
      record { nodes = refl; listed = listed; wider = λ v e. e; longer = omega arith; kept = λ k h. refl; spread = λ a h. h }

  pub grows_then : {s t u : Found} → Grows g f avoid s t → Grows g f avoid t u → Grows g f avoid s u
  grows_then a b =
      record {
        nodes = b.nodes ∙ a.nodes;
        listed = b.listed;
        wider = λ v e. b.wider v (a.wider v e);
        longer = omega (arith, a.longer, b.longer);
        kept = λ k h. b.kept k (omega (arith, a.longer)) ∙ a.kept k h;
        spread = λ r h. b.spread r (a.spread r h);
      }

  pub grows_adds : {s t : Found} (step : Step) → step.line < size g → passable g f avoid step ≡ true → reached s (origin g step) ≡ true
      → Adds (target g step) s t → Grows g f avoid s t
  grows_adds {s} {t} step inside may from adds =
      record {
        nodes = adds.nodes;
        listed = adds.listed;
        wider = adds_wider adds;
        longer = adds.longer;
        kept = adds.kept;
        spread = spread_adds s t step inside may from adds;
      }
