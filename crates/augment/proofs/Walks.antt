-- Walks downhill: one step more, and one step back.
use Rattle.std.proofs.Common.{◌≡◌, ℕ, zero, suc, ◌+◌, ◌-◌, ◌<◌, Bool, true, false, cond, eqb, List, [], ◌∷◌, length, set, sym, refl, ap, ◌∙◌, subst, arith}
use Rattle.std.specs.List.{AllByRecursion}
use Rattle.std.proofs.lemmas.List.{length-set, get_or-set_same, get_or-set_other}
use Rattle.network.specs.Net.{Net, Limits, size}
use Rattle.flows.specs.Bounds.{Within}
use Rattle.flows.specs.Steps as flows
use Rattle.flows.specs.Trails.{Joined, Downhill, Trail}
use Rattle.flows.proofs.Trails.{walked_more, walked_same, downhill_once}
use Rattle.index.specs.Graph.{net}
use Rattle.index.specs.Rows.{Leaves, step_at}
use Rattle.index.specs.Steps.{along, origin, target}
use Rattle.index.specs.declared.graph.Graph.{Graph}
use Rattle.index.specs.declared.step.Step.{Step}
use Rattle.reach.specs.Room.{step_of}
use Rattle.reach.specs.Levels.{level, LeadsDown}
use Rattle.reach.proofs.Steps.{target_inside}
use Rattle.augment.specs.Cursors.{place, row_end}
use Rattle.augment.specs.Walks.{trodden, Held, Walk, Behind}
use Rattle.augment.proofs.Room.{has_room}

-- one step more, and one step back
pub trodden_more : (cells : List Step) (count : ℕ) (s : Step) → count < length cells → trodden (set cells count s) (count + 1) ≡ step_of s ∷ trodden cells count
trodden_more cells count s l =
    walked_more (λ k. step_of (step_at (set cells count s) k)) count
    ∙ ap (λ x. step_of x ∷ trodden (set cells count s) count) (get_or-set_same cells count s (along 0) l)
    ∙ ap (λ xs. step_of s ∷ xs)
    (walked_same count _ _ (λ k m. ap step_of (get_or-set_other cells count k s (along 0) (λ e. omega arith))))

pub trodden_less : (cells : List Step) (count : ℕ) → 0 < count → trodden cells count ≡ step_of (step_at cells (count - 1)) ∷ trodden cells (count - 1)
trodden_less cells zero l = absurd (omega arith)
trodden_less cells (suc n) l = let e : suc n - 1 ≡ n = omega arith in rw e refl

-- every step of a way downhill leaves a node above its end
above : (g : Net) (height : ℕ → ℕ) (a b : ℕ) (steps : List flows.Step) → Joined g a b steps → Downhill g height steps
    → AllByRecursion (λ s. height b < height (flows.origin g s)) steps
above g height a b [] j d = tt
above g height a b (s ∷ steps) j d = (
  omega (arith, d.0, ap height j.0),
  weaker steps (above g height a (flows.origin g s) steps j.1 d.1),
)
  where
    weaker : (xs : List flows.Step) → AllByRecursion (λ x. height (flows.origin g s) < height (flows.origin g x)) xs → AllByRecursion (λ x. height b < height (flows.origin g x)) xs
    weaker [] h = tt
    weaker (x ∷ xs) h = (omega (arith, h.0, d.0, ap height j.0), weaker xs h.1)

-- so the cursor of its end may go on
held_set : (graph : Graph) (height : ℕ → ℕ) (cursor : List ℕ) (b p : ℕ) (steps : List flows.Step) → AllByRecursion (λ s. height b < height (flows.origin (net graph) s)) steps
    → AllByRecursion (Held graph cursor) steps → AllByRecursion (Held graph (set cursor b p)) steps
held_set graph height cursor b p [] u h = tt
held_set graph height cursor b p (s ∷ steps) u h = (
  omega (arith, h.0, get_or-set_other cursor b (flows.origin (net graph) s) p 0 (λ e. omega (arith, u.0, ap height e))),
  held_set graph height cursor b p steps u.1 h.1,
)

origin_inside : (g : Net) → Limits g → (s : Step) → s.line < size g → origin g s < g.nodes
origin_inside g lim s l = pick (eqb s.direction 0) (lim.each s.line l).tail (lim.each s.line l).head
  where
    pick : (b : Bool) {x y : ℕ} → x < g.nodes → y < g.nodes → cond b x y < g.nodes
    pick true p q = p
    pick false p q = q

-- the walk that has not begun
pub walk_none : (graph : Graph) (f : ℕ → ℕ) (distance cursor : List ℕ) (a : ℕ) (cells : List Step) (count : ℕ) → count ≡ 0 → length cells ≡ graph.nodes → a < graph.nodes
    → Walk graph f distance cursor a a cells count
walk_none graph f distance cursor a cells count none places node =
    subst (Walk graph f distance cursor a a cells) (sym none)
    (record { places = places; node = node; joined = refl; inside = tt; room = tt; downhill = tt; held = tt; fall = omega arith })

module _ {graph : Graph} {f : ℕ → ℕ} {distance cursor : List ℕ} {a b : ℕ} {cells : List Step} {count : ℕ} (now : Walk graph f distance cursor a b cells count)
  where
    high : AllByRecursion (λ s. level distance b < level distance (flows.origin (net graph) s)) (trodden cells count)
    high = above (net graph) (level distance) a b (trodden cells count) now.joined now.downhill

    -- a walk is a trail, since it uses no line twice
    pub walk_trail : Trail (net graph) 1 f a b (trodden cells count)
    walk_trail =
        record {
          joined = now.joined;
          inside = now.inside;
          room = now.room;
          once = downhill_once (net graph) (level distance) a b (trodden cells count) now.joined now.downhill;
        }

    -- the cursor of the last node goes on
    pub walk_cursor : (p : ℕ) → Walk graph f distance (set cursor b p) a b cells count
    walk_cursor p =
        record {
          places = now.places;
          node = now.node;
          joined = now.joined;
          inside = now.inside;
          room = now.room;
          downhill = now.downhill;
          held = held_set graph (level distance) cursor b p (trodden cells count) high now.held;
          fall = now.fall;
        }

    -- there is a place for one step more
    pub walk_room : (s : Step) → LeadsDown (net graph) f distance b s → level distance a < graph.nodes → count < length cells
    walk_room s leads near = omega (arith, leads.lower, now.fall, now.places)

    -- one step more, at which the cursor stands
    pub walk_more : Within (net graph) f → (s : Step) → Leaves (net graph) b s → LeadsDown (net graph) f distance b s → level distance a < graph.nodes → b < length cursor
        → place cursor b < row_end graph b → Walk graph f distance cursor a (target (net graph) s) (set cells count s) (count + 1)
    walk_more within s leaves leads near inside before =
        record {
          places = length-set cells count s ∙ now.places;
          node = target_inside (net graph) graph.limits s leaves.inside;
          joined = subst (Joined (net graph) a (target (net graph) s)) (sym steps) (refl, subst (λ v. Joined (net graph) a v (trodden cells count)) (sym leaves.origin) now.joined);
          inside = subst (AllByRecursion (λ x. flows.place x < size (net graph))) (sym steps) (leaves.inside, now.inside);
          room = subst (AllByRecursion (flows.HasRoom (net graph) f 1)) (sym steps) (has_room (net graph) f within 1 s leaves.inside (omega (arith, leads.room)), now.room);
          downhill =
              subst (Downhill (net graph) (level distance)) (sym steps) (omega (arith, leads.lower, ap (level distance) leaves.origin), now.downhill);
          held =
              subst (AllByRecursion (Held graph cursor)) (sym steps)
              (subst (λ v. place cursor v < row_end graph v) (sym leaves.origin) before, now.held);
          fall = omega (arith, leads.lower, now.fall);
        }
      where
        steps : trodden (set cells count s) (count + 1) ≡ step_of s ∷ trodden cells count
        steps = trodden_more cells count s (walk_room s leads near)

    -- one step back, to the node that the last step left
    pub walk_less : 0 < count → Behind graph f distance cursor a b cells count
    walk_less some =
        record {
          inside = inside.0;
          node = origin_inside (net graph) graph.limits (step_at cells (count - 1)) inside.0;
          held = held.0;
          higher = omega (arith, downhill.0, ap (level distance) joined.0);
          walk =
              record {
                places = now.places;
                node = origin_inside (net graph) graph.limits (step_at cells (count - 1)) inside.0;
                joined = joined.1;
                inside = inside.1;
                room = (subst (AllByRecursion (flows.HasRoom (net graph) f 1)) steps now.room).1;
                downhill = downhill.1;
                held = held.1;
                fall = omega (arith, now.fall, downhill.0, ap (level distance) joined.0);
              };
        }
      where
        steps : trodden cells count ≡ step_of (step_at cells (count - 1)) ∷ trodden cells (count - 1)
        steps = trodden_less cells count some

        joined : Joined (net graph) a b (step_of (step_at cells (count - 1)) ∷ trodden cells (count - 1))
        joined = subst (Joined (net graph) a b) steps now.joined

        inside : AllByRecursion (λ x. flows.place x < size (net graph)) (step_of (step_at cells (count - 1)) ∷ trodden cells (count - 1))
        inside = subst (AllByRecursion (λ x. flows.place x < size (net graph))) steps now.inside

        downhill : Downhill (net graph) (level distance) (step_of (step_at cells (count - 1)) ∷ trodden cells (count - 1))
        downhill = subst (Downhill (net graph) (level distance)) steps now.downhill

        held : AllByRecursion (Held graph cursor) (step_of (step_at cells (count - 1)) ∷ trodden cells (count - 1))
        held = subst (AllByRecursion (Held graph cursor)) steps now.held
