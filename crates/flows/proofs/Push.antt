-- Pushing along a trail: the bounds stay, and only the two ends of the trail come to have another balance.
use Rattle.std.proofs.Common.{◌≡◌, ℕ, ◌+◌, ◌-◌, ◌<◌, ◌≤◌, Bool, false, cond, eqb, List, [], ◌∷◌, length, get_or, set, sym, refl, ap, ◌∙◌, subst, add-one, arith}
use mathlib.Core.Path.{fun_ext}
use Rattle.std.specs.List.{AllByRecursion}
use Rattle.std.proofs.lemmas.List.{length-set, get_or-set_same, get_or-set_other}
use Rattle.std.proofs.ByRecursion.{All-weaker}
use Rattle.std.proofs.lemmas.Bool.{cases_eq, eq-eqb, ne_eqb}
use Rattle.network.specs.Sum.{upto}
use Rattle.network.specs.Net.{Net, Line, size, line, tail, head, least, most}
use Rattle.network.specs.Flow.{at, over, into, from}
use Rattle.flows.specs.Bounds.{Within, Balanced, Mending, Carried, only}
use Rattle.flows.specs.Steps.{Step, place, along, origin, target, HasRoom, Ready, changed, moved, shifted, put, pushed, walked}
use Rattle.flows.specs.Trails.{Avoids, Trail}
use Rattle.flows.proofs.Trails.{walked_each, walked_once}
use Rattle.flows.proofs.Sums.{upto_change, upto_same, upto_add, upto_only}

-- a step changes the amount of its own line
pub moved_here : (s : Step) (d : ℕ) (f : ℕ → ℕ) → moved s d f (place s) ≡ changed s d (f (place s))
moved_here s d f = ap (λ b. cond b (changed s d (f (place s))) (f (place s))) (eq-eqb (place s) (place s) refl)

-- and of no other
pub moved_there : (s : Step) (d : ℕ) (f : ℕ → ℕ) (i : ℕ) → (i ≡ place s → ⊥) → moved s d f i ≡ f i
moved_there s d f i e = ap (λ b. cond b (changed s d (f i)) (f i)) (ne_eqb i (place s) e)

-- steps that avoid a line leave its amount
pub shifted_avoids : (i : ℕ) (steps : List Step) (d : ℕ) (f : ℕ → ℕ) → Avoids i steps → shifted steps d f i ≡ f i
shifted_avoids i [] d f h = refl
shifted_avoids i (s ∷ steps) d f h =
    moved_there s d (shifted steps d f) i (λ e. h.0 (sym e)) ∙ shifted_avoids i steps d f h.1

-- one step keeps the bounds
moved_within : (g : Net) (s : Step) (d : ℕ) (f : ℕ → ℕ) → HasRoom g f d s → Within g f → Within g (moved s d f)
moved_within g s d f room w = record { low = λ i l. low_at i (w.low i l); high = λ i l. high_at i (w.high i l) }
  where
    low_at : (i : ℕ) → least (line g i) ≤ f i → least (line g i) ≤ moved s d f i
    low_at i h = grind arith

    high_at : (i : ℕ) → f i ≤ most (line g i) → moved s d f i ≤ most (line g i)
    high_at i h = grind arith

-- what a step does to the amounts summed over the lines that pass a test
moved_over : (g : Net) (p : Line → Bool) (s : Step) (d : ℕ) (f : ℕ → ℕ) → place s < size g
    → over g p (moved s d f) + cond (p (line g (place s))) (f (place s)) 0
    ≡ over g p f + cond (p (line g (place s))) (changed s d (f (place s))) 0
moved_over g p s d f l =
    upto_change (size g) (place s) (λ i. cond (p (line g i)) (moved s d f i) 0) (λ i. cond (p (line g i)) (f i) 0) l
    (λ i m e. ap (λ x. cond (p (line g i)) x 0) (moved_there s d f i e))
    ∙ ap (λ x. over g p f + cond (p (line g (place s))) x 0) (moved_here s d f)

-- what a step changes at a node, by its direction and its two ends
step_balance : (b : Bool) (t h v A B C D x d : ℕ) → A + cond (eqb h v) x 0 ≡ B + cond (eqb h v) (cond b (x + d) (x - d)) 0
    → C + cond (eqb t v) x 0 ≡ D + cond (eqb t v) (cond b (x + d) (x - d)) 0 → (b ≡ false → d ≤ x)
    → A + D + cond (eqb (cond b t h) v) d 0 ≡ C + B + cond (eqb (cond b h t) v) d 0
step_balance b t h v A B C D x d p q r = grind arith

moved_carried : (g : Net) (s : Step) (d : ℕ) (f : ℕ → ℕ) → place s < size g → HasRoom g f d s
    → Carried g d (origin g s) (target g s) f (moved s d f)
moved_carried g s d f l room v =
    step_balance (along s) (tail (line g (place s))) (head (line g (place s))) v (over g (into v) (moved s d f)) (over g (into v) f)
    (over g (from v) (moved s d f)) (over g (from v) f) (f (place s)) d (moved_over g (into v) s d f l) (moved_over g (from v) s d f l)
    (λ e. omega (arith, room.less e))

-- the trail before its newest step, and the room that step still has then
trail_before : {g : Net} {d : ℕ} {f : ℕ → ℕ} {a b : ℕ} {s : Step} {steps : List Step} → Trail g d f a b (s ∷ steps)
    → Trail g d f a (origin g s) steps
trail_before t = record { joined = t.joined.1; inside = t.inside.1; room = t.room.1; once = t.once.1 }

room_left : (g : Net) (d : ℕ) (f : ℕ → ℕ) (s : Step) (steps : List Step) → Avoids (place s) steps → HasRoom g f d s
    → HasRoom g (shifted steps d f) d s
room_left g d f s steps new room =
    record {
      more = λ e. omega (arith, room.more e, shifted_avoids (place s) steps d f new);
      less = λ e. omega (arith, room.less e, shifted_avoids (place s) steps d f new);
    }

-- a push along a trail keeps the bounds
pub push_within : (g : Net) (d : ℕ) (f : ℕ → ℕ) (a b : ℕ) (steps : List Step) → Trail g d f a b steps → Within g f
    → Within g (shifted steps d f)
push_within g d f a b [] t w = w
push_within g d f a b (s ∷ steps) t w =
    moved_within g s d (shifted steps d f) (room_left g d f s steps t.once.0 t.room.0)
    (push_within g d f a (origin g s) steps (trail_before t) w)

-- and carries the amount from the start to the end
pub push_carried : (g : Net) (d : ℕ) (f : ℕ → ℕ) (a b : ℕ) (steps : List Step) → Trail g d f a b steps
    → Carried g d a b f (shifted steps d f)
push_carried g d f a b [] t v = omega (arith, ap (λ w. only w d v) t.joined)
push_carried g d f a b (s ∷ steps) t v =
    omega (
      arith,
      push_carried g d f a (origin g s) steps (trail_before t) v,
      moved_carried g s d (shifted steps d f) t.inside.0 (room_left g d f s steps t.once.0 t.room.0) v,
      ap (λ w. only w d v) t.joined.0,
    )

-- the balance after a push: less to spare at the start, less lacking at the end
pub carried_balanced : (g : Net) (d a b : ℕ) (f h : ℕ → ℕ) → Carried g d a b f h → (spare lack spare' lack' : ℕ → ℕ)
    → Balanced g f spare lack → ((v : ℕ) → v < g.nodes → spare' v + only a d v ≡ spare v)
    → ((v : ℕ) → v < g.nodes → lack' v + only b d v ≡ lack v) → Balanced g h spare' lack'
carried_balanced g d a b f h c spare lack spare' lack' bal p q v l = omega (arith, c v, bal v l, p v l, q v l)

-- a sum from which d was taken at one place
pub upto_taken : (n a d : ℕ) (f h : ℕ → ℕ) → a < n → ((v : ℕ) → v < n → h v + only a d v ≡ f v) → upto n h + d ≡ upto n f
upto_taken n a d f h l p =
    omega (
      arith,
      upto_same n (λ v. h v + only a d v) f p,
      upto_add n h (only a d),
      upto_only n a (only a d) l (λ v _ e. ap (λ b. cond b d 0) (ne_eqb a v (λ q. e (sym q)))),
      ap (λ b. cond b d 0) (eq-eqb a a refl),
    )

-- a list from which d was taken at one place
pub taken_at : (xs : List ℕ) (a d : ℕ) → a < length xs → d ≤ get_or xs a 0
    → (v : ℕ) → get_or (set xs a (get_or xs a 0 - d)) v 0 + only a d v ≡ get_or xs v 0
taken_at xs a d l h v = grind (arith, cases_eq v a, get_or-set_same, get_or-set_other)

-- a list that the steps are put into one by one is the flow shifted
pub pushed_length : (steps : List Step) (d : ℕ) (f : List ℕ) → length (pushed steps d f) ≡ length f
pushed_length [] d f = refl
pushed_length (s ∷ steps) d f = length-set (pushed steps d f) (place s) _ ∙ pushed_length steps d f

pub at_put : (s : Step) (d : ℕ) (f : List ℕ) → place s < length f → at (put s d f) ≡ moved s d (at f)
at_put s d f l = fun_ext here
  where
    here : (i : ℕ) → at (put s d f) i ≡ moved s d (at f) i
    here i = grind (arith, cases_eq i (place s), get_or-set_same, get_or-set_other)

pub at_pushed : (steps : List Step) (d : ℕ) (f : List ℕ) → AllByRecursion (λ s. place s < length f) steps → at (pushed steps d f) ≡ shifted steps d (at f)
at_pushed [] d f h = refl
at_pushed (s ∷ steps) d f h =
    at_put s d (pushed steps d f) (omega (arith, pushed_length steps d f, h.0)) ∙ ap (moved s d) (at_pushed steps d f h.1)

-- steps that avoid a line leave its amount in the list
pub pushed_avoids : (i : ℕ) (steps : List Step) (d : ℕ) (f : List ℕ) → Avoids i steps → at (pushed steps d f) i ≡ at f i
pushed_avoids i [] d f h = refl
pushed_avoids i (s ∷ steps) d f h =
    get_or-set_other (pushed steps d f) (place s) i _ 0 (λ e. h.0 (sym e)) ∙ pushed_avoids i steps d f h.1

module _ (g : Net) (d : ℕ) (f : List ℕ) (a b : ℕ) (steps : List Step) where
  -- a push along a trail goes on mending, with d less to spare at the start and d less lacking at the end
  pub push : (spare lack spare' lack' : ℕ → ℕ) → Mending g f spare lack → Trail g d (at f) a b steps
      → ((v : ℕ) → v < g.nodes → spare' v + only a d v ≡ spare v) → ((v : ℕ) → v < g.nodes → lack' v + only b d v ≡ lack v)
      → Mending g (pushed steps d f) spare' lack'
  push spare lack spare' lack' m t p q =
      record {
        long = pushed_length steps d f ∙ m.long;
        bounds = subst (Within g) (sym same) (push_within g d (at f) a b steps t m.bounds);
        balance =
            subst (λ h. Balanced g h spare' lack') (sym same)
            (carried_balanced g d a b (at f) (shifted steps d (at f)) (push_carried g d (at f) a b steps t) spare lack spare' lack' m.balance p q);
      }
    where
      same : at (pushed steps d f) ≡ shifted steps d (at f)
      same = at_pushed steps d f (All-weaker _ _ (λ _ l. omega (arith, m.long)) steps t.inside)

  -- the same where what is to spare and what is lacking are lists of amounts
  pub push_lists : (spare lack : List ℕ) → Mending g f (at spare) (at lack) → Trail g d (at f) a b steps → a < length spare
      → b < length lack → d ≤ at spare a → d ≤ at lack b
      → Mending g (pushed steps d f) (at (set spare a (at spare a - d))) (at (set lack b (at lack b - d)))
  push_lists spare lack m t i j p q =
      push (at spare) (at lack) _ _ m t (λ v _. taken_at spare a d i p v) (λ v _. taken_at lack b d j q v)

-- when the steps of a trail are put into a list of amounts one by one, each finds its line in the list, with room
pub push_turn : (g : Net) (d : ℕ) (f : List ℕ) (a b n : ℕ) (read : ℕ → Step) → length f ≡ size g → Trail g d (at f) a b (walked read n)
    → (k : ℕ) → k < n → (h : List ℕ) → h ≡ pushed (walked read k) d f → Ready g d h (read k)
push_turn g d f a b n read long t k l h e =
    record {
      listed = listed;
      inside = omega (arith, listed, ap length e, pushed_length (walked read k) d f);
      room = record { more = λ r. omega (arith, room.more r, kept); less = λ r. omega (arith, room.less r, kept) };
    }
  where
    listed : place (read k) < size g
    listed = walked_each (λ s. place s < size g) n read t.inside k l

    room : HasRoom g (at f) d (read k)
    room = walked_each (HasRoom g (at f) d) n read t.room k l

    kept : at h (place (read k)) ≡ at f (place (read k))
    kept = ap (λ x. at x (place (read k))) e ∙ pushed_avoids (place (read k)) (walked read k) d f (walked_once n read t.once k l)

-- and when it is put the list is that of one more step
pub push_next : (d : ℕ) (f : List ℕ) (read : ℕ → Step) (k : ℕ) (h : List ℕ) → h ≡ pushed (walked read k) d f
    → put (read k) d h ≡ pushed (walked read (k + 1)) d f
push_next d f read k h e = ap (put (read k) d) e ∙ ap (λ n. pushed (walked read n) d f) (sym (add-one k))
