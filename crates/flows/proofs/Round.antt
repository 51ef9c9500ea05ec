-- Going round: a flow shifted along a trail that closes over a line is lawful again, and carries another amount over the line.
use Rattle.std.proofs.Common.{◌≡◌, ℕ, ◌<◌, Bool, true, ◌⊎◌, List, [], ◌∷◌, sym, refl, ap, ◌∙◌, subst, inl, inr, arith}
use Rattle.std.proofs.ByRecursion.{All-weaker}
use Rattle.std.proofs.lemmas.Bool.{true≢false, false≢true}
use Rattle.network.specs.Net.{Net, size, line, tail, head, least, most}
use Rattle.network.specs.Flow.{at, Kept, Lawful, Free}
use Rattle.flows.specs.Bounds.{Within}
use Rattle.flows.specs.Steps.{Step, place, origin, target, HasRoom, changed, shifted, pushed}
use Rattle.flows.specs.Trails.{Avoids, Trail, Reached, Spread}
use Rattle.flows.proofs.Trails.{trail_more}
use Rattle.flows.proofs.Push.{push_within, push_carried, pushed_length, at_pushed, moved_here, shifted_avoids}
use Rattle.flows.proofs.Lawful.{lawful_within}

-- a trail that ends where it starts leaves a lawful flow lawful
pub round_lawful : (g : Net) (d a : ℕ) (f : List ℕ) (steps : List Step) → Lawful g f → Trail g d (at f) a a steps → Lawful g (pushed steps d f)
round_lawful g d a f steps law t =
    record {
      long = pushed_length steps d f ∙ law.long;
      low = within.low;
      high = within.high;
      kept = λ v l. subst (λ h. Kept g h v) (sym same) (omega (arith, push_carried g d (at f) a a steps t v, law.kept v l));
    }
  where
    same : at (pushed steps d f) ≡ shifted steps d (at f)
    same = at_pushed steps d f (All-weaker _ _ (λ s l. omega (arith, law.long)) steps t.inside)

    within : Within g (at (pushed steps d f))
    within = subst (Within g) (sym same) (push_within g d (at f) a a steps t (lawful_within g f law))

-- a line over which a step has room, with a trail back from the step's end to its start, is free
pub round : (g : Net) (f : List ℕ) → Lawful g f → (s : Step) → place s < size g → HasRoom g (at f) 1 s → (steps : List Step)
    → Trail g 1 (at f) (target g s) (origin g s) steps → Avoids (place s) steps → Free g (place s) (at f (place s))
round g f law s l room steps t new =
    (pushed (s ∷ steps) 1 f, (round_lawful g 1 (target g s) f (s ∷ steps) law whole, λ e. other (sym amount ∙ e)))
  where
    whole : Trail g 1 (at f) (target g s) (target g s) (s ∷ steps)
    whole = trail_more t s l refl room new

    amount : at (pushed (s ∷ steps) 1 f) (place s) ≡ changed s 1 (at f (place s))
    amount =
        ap (λ h. h (place s)) (at_pushed (s ∷ steps) 1 f (All-weaker _ _ (λ _ m. omega (arith, law.long)) (s ∷ steps) whole.inside))
        ∙ moved_here s 1 (shifted steps 1 (at f))
        ∙ ap (changed s 1) (shifted_avoids (place s) steps 1 (at f) new)

    other : changed s 1 (at f (place s)) ≡ at f (place s) → ⊥
    other e = let less = room.less in grind arith

-- the same by a set of nodes that is reached from the step's end and holds its start
pub round_spread : (g : Net) (f : List ℕ) → Lawful g f → (s : Step) → place s < size g → HasRoom g (at f) 1 s → (R : ℕ → Bool)
    → Spread g 1 (at f) (place s) (target g s) R → R (origin g s) ≡ true → Free g (place s) (at f (place s))
round_spread g f law s l room R spread e = round g f law s l room back.steps back.trail back.avoids
  where
    back : Reached g 1 (at f) (place s) (target g s) R (origin g s)
    back = spread (origin g s) e

-- a line below its most whose tail is reached from its head without it is free
pub free_above : (g : Net) (f : List ℕ) → Lawful g f → (l : ℕ) → l < size g → at f l < most (line g l) → (R : ℕ → Bool)
    → Spread g 1 (at f) l (head (line g l)) R → R (tail (line g l)) ≡ true → Free g l (at f l)
free_above g f law l m room R spread e =
    round_spread g f law (l, 0) m (record { more = λ _. omega arith; less = λ n. absurd (true≢false n) }) R spread e

-- a line above its least whose head is reached from its tail without it is free
pub free_below : (g : Net) (f : List ℕ) → Lawful g f → (l : ℕ) → l < size g → least (line g l) < at f l → (R : ℕ → Bool)
    → Spread g 1 (at f) l (tail (line g l)) R → R (head (line g l)) ≡ true → Free g l (at f l)
free_below g f law l m room R spread e =
    round_spread g f law (l, 1) m (record { more = λ n. absurd (false≢true n); less = λ _. omega arith }) R spread e

-- a line from a node to itself is free if it has room
pub free_loop : (g : Net) (f : List ℕ) → Lawful g f → (l : ℕ) → l < size g → tail (line g l) ≡ head (line g l)
    → (at f l < most (line g l)) ⊎ (least (line g l) < at f l) → Free g l (at f l)
free_loop g f law l m e (inl room) =
    round g f law (l, 0) m (record { more = λ _. omega arith; less = λ n. absurd (true≢false n) }) []
    (record { joined = sym e; inside = tt; room = tt; once = tt }) tt
free_loop g f law l m e (inr room) =
    round g f law (l, 1) m (record { more = λ n. absurd (false≢true n); less = λ _. omega arith }) []
    (record { joined = e; inside = tt; room = tt; once = tt }) tt
