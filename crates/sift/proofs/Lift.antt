-- What a sift does in the part of longer memory that it needs, it does in that memory.
use Rattle.std.proofs.Common.{◌≡◌, ℕ, ◌<◌, ◌≤◌, ◌⊎◌, List, ◌++◌, length, get_or, take, drop, Ok, Err, Result, sym, ap, ◌∙◌, subst, ⊎_elim, inl, inr, arith, get_or-take}
use Rattle.std.proofs.lemmas.Bool.{cases_lt}
use Rattle.std.proofs.lemmas.List.{drop_at, take-append-le, length-take-le}
use Rattle.network.specs.Net.{Net, size}
use Rattle.network.specs.Flow.{Lawful, Fixed, Free, Bottleneck, demand, supply, at}
use Rattle.sift.specs.Workspace.{Workspace, Short, Exact, Cleared, SurplusKept}
use Rattle.sift.specs.Sifted.{Accepted, Refused, Done, Sifted, shown}
use Rattle.sift.specs.declared.refusal.SiftRefusal.{SiftRefusal}
use Rattle.sift.specs.declared.refusal.SiftRefusal.TheVariants.{Short as TooShort, NoFlow}

-- the part that a network needs is the same in both
pub record Agree (g : Net) (v w : Workspace) : Type 0 where
  pub flow : take (size g) v.flow ≡ take (size g) w.flow
  pub verdicts : take (size g) v.verdicts ≡ take (size g) w.verdicts
  pub bottleneck : take g.nodes v.bottleneck ≡ take g.nodes w.bottleneck
  pub marks : take g.nodes v.marks ≡ take g.nodes w.marks
  pub nodes : take g.nodes v.nodes ≡ take g.nodes w.nodes
  pub steps : take g.nodes v.steps ≡ take g.nodes w.steps

-- memory that is long enough everywhere is not short
pub not_short : (g : Net) (w : Workspace) → size g ≤ length w.flow → size g ≤ length w.verdicts → g.nodes ≤ length w.bottleneck
    → g.nodes ≤ length w.marks → g.nodes ≤ length w.nodes → g.nodes ≤ length w.steps → Short g w → ⊥
not_short g w f v b m n s =
    ⊎_elim (λ h. omega arith) (⊎_elim (λ h. omega arith) (⊎_elim (λ h. omega arith) (⊎_elim (λ h. omega arith) (⊎_elim (λ h. omega arith) (λ h. omega arith)))))

-- each of the six is long enough
pub record Enough (g : Net) (w : Workspace) : Type 0 where
  pub flow : size g ≤ length w.flow
  pub verdicts : size g ≤ length w.verdicts
  pub bottleneck : g.nodes ≤ length w.bottleneck
  pub marks : g.nodes ≤ length w.marks
  pub nodes : g.nodes ≤ length w.nodes
  pub steps : g.nodes ≤ length w.steps

-- memory that is not short is long enough everywhere
pub enough_from : (g : Net) (w : Workspace) → (Short g w → ⊥) → Enough g w
enough_from g w roomy =
    record {
      flow = long (λ h. roomy (inl h));
      verdicts = long (λ h. roomy (inr (inl h)));
      bottleneck = long (λ h. roomy (inr (inr (inl h))));
      marks = long (λ h. roomy (inr (inr (inr (inl h)))));
      nodes = long (λ h. roomy (inr (inr (inr (inr (inl h))))));
      steps = long (λ h. roomy (inr (inr (inr (inr (inr h))))));
    }
  where
    long : {a b : ℕ} → (a < b → ⊥) → b ≤ a
    long {a} {b} n = ⊎_elim (λ h. absurd (n h)) (λ h. h) (cases_lt a b)

-- What a slice holds after a call that was lent its first n places: what those hold now, and the rest as it was.
abbrev pub rejoined : {X : Type 0} → ℕ → List X → List X → List X
rejoined n part xs = part ++ drop n xs

pub front_agrees : {X : Type 0} (n k : ℕ) (part xs : List X) → length part ≡ k → n ≡ k → take k part ≡ take k (rejoined n part xs)
front_agrees n k part xs long e = sym (take-append-le k part (drop n xs) (omega arith))

pub rest_kept : {X : Type 0} (n k : ℕ) (part xs : List X) → length part ≡ k → n ≡ k → drop k (rejoined n part xs) ≡ drop k xs
rest_kept n k part xs long e = subst (λ i. drop k (part ++ drop i xs) ≡ drop k xs) (sym e) (drop_at part (drop k xs) k long)

-- a place of the front is the same in both
same_at : (n : ℕ) (xs ys : List ℕ) → take n xs ≡ take n ys → (i : ℕ) → i < n → get_or xs i 0 ≡ get_or ys i 0
same_at n xs ys e i h = sym (get_or-take n xs i 0 h) ∙ ap (λ zs. get_or zs i 0) e ∙ get_or-take n ys i 0 h

module _ (g : Net) (v w : Workspace) (e : Agree g v w) where
  cleared_lifts : Cleared g v → Cleared g w
  cleared_lifts c = record { marks = sym e.marks ∙ c.marks; nodes = sym e.nodes ∙ c.nodes; steps = sym e.steps ∙ c.steps }

  -- a verdict speaks of the amount of its line alone
  abbrev Says : ℕ → ℕ → ℕ → Type 0
  Says i x y = ((y ≡ 1) × Fixed g i x) ⊎ ((y ≡ 0) × Free g i x)

  verdict_lifts : (i : ℕ) → i < size g → Says i (at v.flow i) (get_or v.verdicts i 0) → Says i (at w.flow i) (get_or w.verdicts i 0)
  verdict_lifts i h t =
      subst (λ x. Says i x (get_or w.verdicts i 0)) (same_at _ _ _ e.flow i h) (subst (λ y. Says i (at v.flow i) y) (same_at _ _ _ e.verdicts i h) t)

  accepted_lifts : Accepted g v → Accepted g w
  accepted_lifts a = record {
    lawful = subst (Lawful g) e.flow a.lawful;
    verdicts = λ i h. verdict_lifts i h (a.verdicts i h);
    bottleneck = sym e.bottleneck ∙ a.bottleneck;
  }

  refused_lifts : (d s : ℕ) → Refused g v d s → Refused g w d s
  refused_lifts d s r =
      record {
        none = r.none;
        bytes = λ k h. subst (λ x. (x ≡ 0) ⊎ (x ≡ 1)) (same_at _ _ _ e.bottleneck k h) (r.bytes k h);
        bottleneck = subst (λ xs. Bottleneck g (shown xs)) e.bottleneck r.bottleneck;
        demand = r.demand ∙ ap (λ xs. demand g (shown xs)) e.bottleneck;
        supply = r.supply ∙ ap (λ xs. supply g (shown xs)) e.bottleneck;
        flow = sym e.flow ∙ r.flow;
        verdicts = sym e.verdicts ∙ r.verdicts;
      }

  pub lifted : (before : Workspace) → (Short g before → ⊥) → SurplusKept g before w → (r : Result (Unit {0}) SiftRefusal) → Done g v r → Sifted g before w r
  lifted before enough kept (Ok _) d =
      record { enough = enough; answer = accepted_lifts d.0; cleared = cleared_lifts d.1; surplus = kept }
  lifted before enough kept (Err TooShort) d = absurd d
  lifted before enough kept (Err (NoFlow x y)) d =
      record { enough = enough; answer = refused_lifts x y d.0; cleared = cleared_lifts d.1; surplus = kept }

-- memory of which the front that a network needs was lent out, and has come back
abbrev pub rejoin : ℕ → ℕ → Workspace → Workspace → Workspace
rejoin n a part w =
    record {
      flow = rejoined a part.flow w.flow;
      verdicts = rejoined a part.verdicts w.verdicts;
      bottleneck = rejoined n part.bottleneck w.bottleneck;
      marks = rejoined n part.marks w.marks;
      nodes = rejoined n part.nodes w.nodes;
      steps = rejoined n part.steps w.steps;
    }

-- the front of memory that is not short is as long as the network needs
pub front_exact : (g : Net) (n a : ℕ) → n ≡ g.nodes → a ≡ size g → (before part : Workspace) → (Short g before → ⊥) → length part.flow ≡ length (take a before.flow)
    → length part.verdicts ≡ length (take a before.verdicts) → length part.bottleneck ≡ length (take n before.bottleneck) → length part.marks ≡ length (take n before.marks)
    → length part.nodes ≡ length (take n before.nodes) → length part.steps ≡ length (take n before.steps) → Exact g part
front_exact g n a en ea before part roomy f v b m o s =
    let enough = enough_from g before roomy in
    record {
      flow = f ∙ length-take-le a before.flow (omega (arith, enough.flow)) ∙ ea;
      verdicts = v ∙ length-take-le a before.verdicts (omega (arith, enough.verdicts)) ∙ ea;
      bottleneck = b ∙ length-take-le n before.bottleneck (omega (arith, enough.bottleneck)) ∙ en;
      marks = m ∙ length-take-le n before.marks (omega (arith, enough.marks)) ∙ en;
      nodes = o ∙ length-take-le n before.nodes (omega (arith, enough.nodes)) ∙ en;
      steps = s ∙ length-take-le n before.steps (omega (arith, enough.steps)) ∙ en;
    }

pub sifted_front : (g : Net) (n a : ℕ) → n ≡ g.nodes → a ≡ size g → (before part : Workspace) → (Short g before → ⊥) → Exact g part
    → (r : Result (Unit {0}) SiftRefusal) → Done g part r → Sifted g before (rejoin n a part before) r
sifted_front g n a en ea before part roomy exact r done = lifted g part (rejoin n a part before) agree before roomy kept r done
  where
    agree : Agree g part (rejoin n a part before)
    agree = record {
      flow = front_agrees a (size g) part.flow before.flow exact.flow ea;
      verdicts = front_agrees a (size g) part.verdicts before.verdicts exact.verdicts ea;
      bottleneck = front_agrees n g.nodes part.bottleneck before.bottleneck exact.bottleneck en;
      marks = front_agrees n g.nodes part.marks before.marks exact.marks en;
      nodes = front_agrees n g.nodes part.nodes before.nodes exact.nodes en;
      steps = front_agrees n g.nodes part.steps before.steps exact.steps en;
    }

    kept : SurplusKept g before (rejoin n a part before)
    kept = record {
      flow = rest_kept a (size g) part.flow before.flow exact.flow ea;
      verdicts = rest_kept a (size g) part.verdicts before.verdicts exact.verdicts ea;
      bottleneck = rest_kept n g.nodes part.bottleneck before.bottleneck exact.bottleneck en;
      marks = rest_kept n g.nodes part.marks before.marks exact.marks en;
      nodes = rest_kept n g.nodes part.nodes before.nodes exact.nodes en;
      steps = rest_kept n g.nodes part.steps before.steps exact.steps en;
    }
