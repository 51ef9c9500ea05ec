-- Trails: how they grow, why they use no line twice, and how a set of reached nodes spreads.
use Rattle.std.proofs.Common.{◌≡◌, ℕ, zero, suc, ◌+◌, ◌<◌, ◌≤◌, Bool, true, false, cond, not, leb, List, [], ◌∷◌, sym, refl, ap, ◌∙◌, subst, inl, inr, add-one, arith}
use Rattle.std.specs.List.{AllByRecursion}
use Rattle.std.proofs.ByRecursion.{All-weaker}
use Rattle.std.proofs.lemmas.Bool.{both_ways, cases_eq, cases_lt, cond_both, and_parts, not-true, leb-true, le-leb}
use Rattle.network.specs.Net.{Net, Line, size, line, tail, head, least, most}
use Rattle.flows.specs.Bounds.{Shut}
use Rattle.flows.specs.Steps.{Step, place, along, origin, target, HasRoom, walked}
use Rattle.flows.specs.Trails.{Avoids, Once, Joined, Trail, Held, Stays, Downhill, Reached, Spread}

-- the trail of no steps
pub trail_none : (g : Net) (d : ℕ) (f : ℕ → ℕ) (a : ℕ) → Trail g d f a a []
trail_none g d f a = record { joined = refl; inside = tt; room = tt; once = tt }

-- one more step, over a line that the trail has not used
pub trail_more : {g : Net} {d : ℕ} {f : ℕ → ℕ} {a b : ℕ} {steps : List Step} → Trail g d f a b steps → (s : Step)
    → place s < size g → origin g s ≡ b → HasRoom g f d s → Avoids (place s) steps → Trail g d f a (target g s) (s ∷ steps)
trail_more {g} {d} {f} {a} {b} {steps} t s l e r new =
    record {
      joined = (refl, subst (λ v. Joined g a v steps) (sym e) t.joined);
      inside = (l, t.inside);
      room = (r, t.room);
      once = (new, t.once);
    }

-- a trail with room for another amount
pub trail_room : {g : Net} {d e : ℕ} {f : ℕ → ℕ} {a b : ℕ} {steps : List Step} → Trail g d f a b steps → AllByRecursion (HasRoom g f e) steps
    → Trail g e f a b steps
trail_room t r = record { joined = t.joined; inside = t.inside; room = r; once = t.once }

-- steps that stay in a set avoid a line that has an end outside
pub avoids_outside : (g : Net) (R : ℕ → Bool) (i : ℕ) → (Held R (line g i) → ⊥) → (steps : List Step) → Stays g R steps → Avoids i steps
avoids_outside g R i out steps h = All-weaker _ _ (λ s k e. out (subst (λ j. Held R (line g j)) e k)) steps h

-- steps that stay in a set stay in a wider one
pub stays_wider : (g : Net) (R S : ℕ → Bool) → ((v : ℕ) → R v ≡ true → S v ≡ true) → (steps : List Step) → Stays g R steps → Stays g S steps
stays_wider g R S wide steps h =
    All-weaker _ _ (λ s k. record { tail = wide _ k.tail; head = wide _ k.head }) steps h

-- a line has both ends in a set if a step over it has, and then a step over it has
pub held_from_step : (g : Net) (R : ℕ → Bool) (s : Step) → R (origin g s) ≡ true → R (target g s) ≡ true → Held R (line g (place s))
held_from_step g R s o t =
    record {
      tail = pick (along s) (tail (line g (place s))) (head (line g (place s))) o t;
      head = pick (along s) (head (line g (place s))) (tail (line g (place s))) t o;
    }
  where
    pick : (b : Bool) (x y : ℕ) → R (cond b x y) ≡ true → R (cond b y x) ≡ true → R x ≡ true
    pick true x y p q = p
    pick false x y p q = q

pub target_held : (g : Net) (R : ℕ → Bool) (s : Step) → Held R (line g (place s)) → R (target g s) ≡ true
target_held g R s h =
    cond_both (along s) (head (line g (place s))) (tail (line g (place s))) (λ v. R v ≡ true) (λ _. h.head) (λ _. h.tail)

-- a way downhill stays at or above the level of its end
downhill_stays : (g : Net) (level : ℕ → ℕ) (a b : ℕ) (steps : List Step) → Joined g a b steps → Downhill g level steps
    → Stays g (λ v. leb (level b) (level v)) steps
downhill_stays g level a b [] j h = tt
downhill_stays g level a b (s ∷ steps) j h = (
  held_from_step g (λ v. leb (level b) (level v)) s
      (le-leb (level b) (level (origin g s)) (omega (arith, h.0, ap level j.0)))
      (le-leb (level b) (level (target g s)) (omega (arith, ap level j.0))),
  stays_wider g (λ v. leb (level (origin g s)) (level v)) (λ v. leb (level b) (level v))
      (λ v e. le-leb (level b) (level v) (omega (arith, leb-true (level (origin g s)) (level v) e, h.0, ap level j.0))) steps
      (downhill_stays g level a (origin g s) steps j.1 h.1),
)

-- one more step down goes over a new line
pub downhill_new : (g : Net) (level : ℕ → ℕ) (a : ℕ) (s : Step) (steps : List Step) → Joined g a (origin g s) steps → Downhill g level (s ∷ steps)
    → Avoids (place s) steps
downhill_new g level a s steps j h =
    avoids_outside g (λ v. leb (level (origin g s)) (level v)) (place s)
    (λ k. omega (
      arith,
      h.0,
      leb-true (level (origin g s)) (level (target g s)) (target_held g (λ v. leb (level (origin g s)) (level v)) s k),
    ))
    steps
    (downhill_stays g level a (origin g s) steps j h.1)

-- a way downhill uses no line twice
pub downhill_once : (g : Net) (level : ℕ → ℕ) (a b : ℕ) (steps : List Step) → Joined g a b steps → Downhill g level steps → Once steps
downhill_once g level a b [] j h = tt
downhill_once g level a b (s ∷ steps) j h =
    (downhill_new g level a s steps j.1 h, downhill_once g level a (origin g s) steps j.1 h.1)

-- the start alone is reached
pub spread_start : (g : Net) (d : ℕ) (f : ℕ → ℕ) (l a : ℕ) (R : ℕ → Bool) → ((v : ℕ) → R v ≡ true → v ≡ a) → Spread g d f l a R
spread_start g d f l a R alone v e =
    record {
      steps = [];
      trail = subst (λ b. Trail g d f a b []) (sym (alone v e)) (trail_none g d f a);
      avoids = tt;
      stays = tt;
    }

-- the node at the end of a step with room from a reached one is reached too
pub spread_more : {g : Net} {d : ℕ} {f : ℕ → ℕ} {l a : ℕ} (R S : ℕ → Bool) → Spread g d f l a R → (s : Step) → place s < size g
    → (place s ≡ l → ⊥) → HasRoom g f d s → R (origin g s) ≡ true → R (target g s) ≡ false → S (target g s) ≡ true
    → ((v : ℕ) → (v ≡ target g s → ⊥) → S v ≡ R v) → Spread g d f l a S
spread_more {g} {d} {f} {l} {a} R S spread s fits other room from new now rest v e =
    elim (cases_eq v (target g s)) [
      | inl k ↦
          record {
            steps = s ∷ before.steps;
            trail =
                subst (λ w. Trail g d f a w (s ∷ before.steps)) (sym k)
                (trail_more before.trail s fits refl room
                (avoids_outside g R (place s) (λ h. both_ways (R (target g s)) new (target_held g R s h)) before.steps before.stays));
            avoids = (other, before.avoids);
            stays = (held_from_step g S s (wide (origin g s) from) now, stays_wider g R S wide before.steps before.stays);
          }
      | inr k ↦
          let h : Reached g d f l a R v = spread v (sym (rest v k) ∙ e) in
          record { steps = h.steps; trail = h.trail; avoids = h.avoids; stays = stays_wider g R S wide h.steps h.stays }
    ]
  where
    before : Reached g d f l a R (origin g s)
    before = spread (origin g s) from

    wide : (w : ℕ) → R w ≡ true → S w ≡ true
    wide w h = rest w (λ k. both_ways (R (target g s)) new (ap R (sym k) ∙ h)) ∙ h

-- a line over which no step with room leads out of the set is shut
pub shut_by : (R : ℕ → Bool) (l : Line) (x : ℕ) → (R (tail l) ≡ true → x < most l → R (head l) ≡ true)
    → (R (head l) ≡ true → least l < x → R (tail l) ≡ true) → Shut R l x
shut_by R l x more less =
    record {
      out = λ e. stays (R (tail l)) (R (head l)) x (most l) more (and_parts (R (tail l)) (not (R (head l))) e);
      back = λ e. stays (R (head l)) (R (tail l)) (least l) x less (and_parts (R (head l)) (not (R (tail l))) e);
    }
  where
    stays : (b c : Bool) (y z : ℕ) → (b ≡ true → y < z → c ≡ true) → (b ≡ true) × (not c ≡ true) → z ≤ y
    stays b c y z step e =
        elim (cases_lt y z) [ inl k ↦ absurd (both_ways c (not-true c e.1) (step e.0 k)) | inr k ↦ k ]

-- one more step read is one more walked
pub walked_more : (read : ℕ → Step) (n : ℕ) → walked read (n + 1) ≡ read n ∷ walked read n
walked_more read n = ap (walked read) (add-one n)

-- the same steps read are the same way walked
pub walked_same : (n : ℕ) (r s : ℕ → Step) → ((k : ℕ) → k < n → r k ≡ s k) → walked r n ≡ walked s n
walked_same zero r s h = refl
walked_same (suc n) r s h = cc (h n (omega arith), walked_same n r s (λ k l. h k (omega arith)))

-- what holds of each step that is read holds of all that are walked, and the reverse
pub walked_all : (P : Step → Type 0) (n : ℕ) (r : ℕ → Step) → ((k : ℕ) → k < n → P (r k)) → AllByRecursion P (walked r n)
walked_all P zero r h = tt
walked_all P (suc n) r h = (h n (omega arith), walked_all P n r (λ k l. h k (omega arith)))

pub walked_each : (P : Step → Type 0) (n : ℕ) (r : ℕ → Step) → AllByRecursion P (walked r n) → (k : ℕ) → k < n → P (r k)
walked_each P zero r h k l = absurd (omega arith)
walked_each P (suc n) r h k l =
    elim (cases_eq k n) [ inl e ↦ subst (λ j. P (r j)) (sym e) h.0 | inr e ↦ walked_each P n r h.1 k (omega arith) ]

-- each step goes over a line that those before it avoid
pub walked_once : (n : ℕ) (r : ℕ → Step) → Once (walked r n) → (k : ℕ) → k < n → Avoids (place (r k)) (walked r k)
walked_once zero r h k l = absurd (omega arith)
walked_once (suc n) r h k l =
    elim (cases_eq k n)
    [ inl e ↦ subst (λ j. Avoids (place (r j)) (walked r j)) (sym e) h.0 | inr e ↦ walked_once n r h.1 k (omega arith) ]
