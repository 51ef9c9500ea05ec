-- What the answers of the two searches for a line come to.
use Rattle.std.proofs.Common.{◌≡◌, ℕ, ◌+◌, ◌<◌, Bool, true, false, cond, eqb, ltb, List, length, get_or, set, sym, subst, arith, below_more}
use Rattle.std.proofs.lemmas.List.{get_or-set_same, get_or-set_other}
use Rattle.std.proofs.lemmas.Bool.{ltb-true}
use Rattle.network.specs.Net.{Limits, Net, size, line, tail, head, least, most}
use Rattle.network.specs.Flow.{at, Lawful, Free}
use Rattle.flows.proofs.Lawful.{top, floor}
use Rattle.flows.proofs.Round.{free_above, free_below}
use Rattle.index.specs.Steps.{origin, target}
use Rattle.index.specs.declared.step.Step.{Step}
use Rattle.verdicts.specs.Search.{has_room, Answer}
use Rattle.verdicts.specs.declared.lent.Lent.{Lent}
use Rattle.verdicts.specs.Verdicts.{Bound, CanChange, Verdict}

-- what the room for a step and the answer of a search for a way back come to
module _ (g : Net) (limits : Limits g) (f : List ℕ) (law : Lawful g f) (s : Step) (inside : s.line < size g) where
  pub way_round : has_room g f s ≡ true → (r : Bool) → Answer g f s.line (target g s) (origin g s) r → CanChange g f s r
  way_round room r = pick (eqb s.direction 0) room r
    where
      Told : Bool → Bool → Type 0
      Told b true = Free g s.line (at f s.line)
      Told b false = Bound g s.line (at f s.line) b

      pick : (b : Bool) → cond b (ltb (at f s.line) (most (line g s.line))) (ltb (least (line g s.line)) (at f s.line)) ≡ true → (r : Bool)
          → Answer g f s.line (cond b (head (line g s.line)) (tail (line g s.line))) (cond b (tail (line g s.line)) (head (line g s.line))) r → Told b r
      pick true some true answer = free_above g f law s.line inside (ltb-true _ _ some) answer.set answer.spread answer.holds
      pick true some false answer = top g limits f law answer.set s.line inside answer.closed answer.holds answer.lacks
      pick false some true answer = free_below g f law s.line inside (ltb-true _ _ some) answer.set answer.spread answer.holds
      pick false some false answer = floor g limits f law answer.set s.line inside answer.closed answer.holds answer.lacks

-- The lines before the one at this place have their verdicts, in memory that is still the lender's.
pub record Judged (g : Net) (f verdicts : List ℕ) (lent lent' : Lent) (place : ℕ) : Type 0 where
  pub marks : lent'.marks.ghost_name ≡ lent.marks.ghost_name
  pub nodes : length lent'.marks.now ≡ length lent.marks.now
  pub told : (i : ℕ) → i < place → Verdict g f i (get_or verdicts i 0)

-- one verdict more
pub told_more : (g : Net) (f verdicts : List ℕ) (place verdict : ℕ) → place < length verdicts → Verdict g f place verdict
    → ((i : ℕ) → i < place → Verdict g f i (get_or verdicts i 0))
    → (i : ℕ) → i < place + 1 → Verdict g f i (get_or (set verdicts place verdict) i 0)
told_more g f verdicts place verdict inside new old =
    below_more _ _
    (λ i h. subst (Verdict g f i) (sym (get_or-set_other verdicts place i verdict 0 (omega arith))) (old i h))
    (subst (Verdict g f place) (sym (get_or-set_same verdicts place verdict 0 inside)) new)
