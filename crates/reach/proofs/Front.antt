-- The search, one reached node more at a time.
use Rattle.std.proofs.Common.{◌≡◌, ℕ, ◌+◌, ◌<◌, ◌≤◌, cond, ltb, List, length, get_or, set, sym, refl, ap, ◌∙◌, subst, inl, inr, arith, below_more}
use Rattle.std.proofs.lemmas.List.{length-set, get_or-set_same, get_or-set_other}
use Rattle.std.proofs.lemmas.Bool.{cases_eq, lt-ltb, le-ltb}
use Rattle.network.specs.Net.{Net}
use Rattle.flows.proofs.Sums.{count_less, count_more, upto_zero}
use Rattle.index.specs.Steps.{target}
use Rattle.reach.specs.Levels.{level, Near, near, Down}
use Rattle.reach.specs.Search.{Queued, Front, Grown}

-- no node is reached at first
pub front_none : (g : Net) (f : ℕ → ℕ) (cells distance : List ℕ) → length cells ≡ g.nodes → length distance ≡ g.nodes
    → ((v : ℕ) → v < g.nodes → level distance v ≡ g.nodes) → Front g f cells 0 distance
front_none g f cells distance places long far =
    record {
      places = places;
      long = long;
      counted = sym (upto_zero g.nodes _ (λ v l. ap (λ b. cond {A = ℕ} b 1 0) (le-ltb (level distance v) g.nodes (omega (arith, far v l)))));
      nodes = λ k l. absurd (omega arith);
      reached = λ k l. absurd (omega arith);
      queued = λ v l h. absurd (omega (arith, far v l));
      low = λ v l h. absurd (omega (arith, far v l));
      down = λ v l h. absurd (omega (arith, far v l));
    }

module _ {g : Net} {f : ℕ → ℕ} {cells : List ℕ} {count : ℕ} {distance : List ℕ} (front : Front g f cells count distance) where
  -- while some node is not reached there is room in the queue
  pub front_room : (u : ℕ) → u < g.nodes → g.nodes ≤ level distance u → count < g.nodes
  front_room u l far = omega (arith, front.counted, count_less g.nodes u (near g distance) l (le-ltb (level distance u) g.nodes far))

  module _ (u d : ℕ) (node : u < g.nodes) (far : g.nodes ≤ level distance u) (close : d ≤ count) where
    few : count < g.nodes
    few = front_room u node far

    pub level_new : level (set distance u d) u ≡ d
    level_new = get_or-set_same distance u d 0 (omega (arith, front.long))

    there : (v : ℕ) → (v ≡ u → ⊥) → level (set distance u d) v ≡ level distance v
    there v e = get_or-set_other distance u v d 0 e

    -- a node that was reached stays at its level
    pub level_kept : (v : ℕ) → Near g distance v → level (set distance u d) v ≡ level distance v
    level_kept v h = there v (λ e. omega (arith, ap (level distance) e))

    -- a reached node was reached before, or is the new one
    was : (v : ℕ) → (v ≡ u → ⊥) → Near g (set distance u d) v → Near g distance v
    was v e h = omega (arith, there v e)

    cell_new : get_or (set cells count u) count 0 ≡ u
    cell_new = get_or-set_same cells count u 0 (omega (arith, few, front.places))

    cell_kept : (k : ℕ) → k < count → get_or (set cells count u) k 0 ≡ get_or cells k 0
    cell_kept k l = get_or-set_other cells count k u 0 (λ e. omega arith)

    pub front_more : (0 < d → Down g f (set distance u d) u) → Front g f (set cells count u) (count + 1) (set distance u d)
    front_more new =
        record {
          places = length-set cells count u ∙ front.places;
          long = length-set distance u d ∙ front.long;
          counted =
              omega (
                arith,
                front.counted,
                count_more g.nodes u (near g distance) (near g (set distance u d)) node (le-ltb (level distance u) g.nodes far)
                    (lt-ltb (level (set distance u d) u) g.nodes (omega (arith, level_new, few)))
                    (λ v l e. ap (λ x. ltb x g.nodes) (there v e)),
              );
          nodes = below_more _ _ (λ k l. omega (arith, cell_kept k l, front.nodes k l)) (omega (arith, cell_new));
          reached =
              below_more _ _
              (λ k l. let old = front.reached k l in subst (Near g (set distance u d)) (sym (cell_kept k l)) (omega (arith, level_kept (get_or cells k 0) old)))
              (subst (Near g (set distance u d)) (sym cell_new) (omega (arith, level_new, few)));
          queued = queued;
          low = low;
          down = down;
        }
      where
        queued : (v : ℕ) → v < g.nodes → Near g (set distance u d) v → Queued (set cells count u) (count + 1) v
        queued v l h =
            elim (cases_eq v u) [
              | inl e ↦ record { place = count; below = omega arith; here = cell_new ∙ sym e }
              | inr e ↦
                  let q = front.queued v l (was v e h) in
                  record { place = q.place; below = omega (arith, q.below); here = cell_kept q.place q.below ∙ q.here }
            ]

        low : (v : ℕ) → v < g.nodes → Near g (set distance u d) v → level (set distance u d) v < count + 1
        low v l h =
            elim (cases_eq v u) [
              | inl e ↦ omega (arith, ap (level (set distance u d)) e, level_new)
              | inr e ↦ omega (arith, there v e, front.low v l (was v e h))
            ]

        down : (v : ℕ) → v < g.nodes → Near g (set distance u d) v → 0 < level (set distance u d) v → Down g f (set distance u d) v
        down v l h some =
            elim (cases_eq v u) [
              | inl e ↦ subst (Down g f (set distance u d)) (sym e) (new (omega (arith, ap (level (set distance u d)) e, level_new)))
              | inr e ↦
                  let old = front.down v l (was v e h) (omega (arith, there v e)) in
                  let lower = old.leads.lower in
                  record {
                    step = old.step;
                    leaves = old.leaves;
                    leads =
                        record {
                          room = old.leads.room;
                          lower = omega (arith, there v e, level_kept (target g old.step) (omega (arith, was v e h)));
                        };
                  }
            ]

    pub grown_one : 0 < d → Grown g cells count distance (set cells count u) (count + 1) (set distance u d)
    grown_one some =
        record {
          longer = omega arith;
          same = cell_kept;
          levels = λ v _. level_kept v;
          zeros = λ v _ z. elim (cases_eq v u) [ inl e ↦ absurd (omega (arith, ap (level (set distance u d)) e, level_new)) | inr e ↦ omega (arith, there v e) ];
        }

pub grown_none : (g : Net) (cells : List ℕ) (count : ℕ) (distance : List ℕ) → Grown g cells count distance cells count distance
grown_none g cells count distance = record { longer = omega arith; same = λ _ _. refl; levels = λ _ _ _. refl; zeros = λ _ _ z. z }

pub grown_then : {g : Net} {cells : List ℕ} {count : ℕ} {distance cells' : List ℕ} {count' : ℕ} {distance' cells'' : List ℕ} {count'' : ℕ} {distance'' : List ℕ}
    → Grown g cells count distance cells' count' distance' → Grown g cells' count' distance' cells'' count'' distance''
    → Grown g cells count distance cells'' count'' distance''
grown_then a b =
    record {
      longer = omega (arith, a.longer, b.longer);
      same = λ k l. b.same k (omega (arith, a.longer)) ∙ a.same k l;
      levels = λ v l h. b.levels v l (omega (arith, a.levels v l h)) ∙ a.levels v l h;
      zeros = λ v l z. a.zeros v l (b.zeros v l z);
    }
