-- An index that is known to be one, found again: the place of each step is looked for in its row.
use Rattle.std.proofs.Common.{◌≡◌, ℕ, zero, suc, ◌+◌, ◌-◌, ◌<◌, ◌≤◌, ◌⊎◌, List, length, slice_index_or, ⊎_elim, inl, inr, ap, ◌∙◌, sym, subst, arith}
use Rattle.std.proofs.Props.{props}
use Rattle.std.proofs.Math.Logic.{∥∥₁_elim, ∥∥₁_map}
use Rattle.std.proofs.lemmas.Bool.{cases_eq}
use Rattle.std.proofs.lemmas.List.{get_or-take, get_or-drop, length-take-le, length-drop}
use Rattle.network.specs.Net.{Net}
use Rattle.index.specs.declared.graph.Graph.{Graph}
use Rattle.index.specs.declared.step.Step.{Step}
use Rattle.index.specs.Graph.{net, row_of}
use Rattle.index.specs.Steps.{along}
use Rattle.index.specs.Rows.{start, step_at, Leaves, Stands, Indexed}

-- a step is known by its line and its direction
pub step_is : (s : Step) (l d : ℕ) → s.line ≡ l → s.direction ≡ d → s ≡ record { line = l; direction = d }
step_is s l d e f = ap (λ x. record { line = x; direction = s.direction }) e ∙ ap (λ y. record { line = l; direction = y }) f

-- two steps are the same, or not
same_step : (s t : Step) → (s ≡ t) ⊎ (s ≡ t → ⊥)
same_step s t =
    ⊎_elim
    (λ line.
    ⊎_elim
    (λ way. inl (step_is s t.line t.direction line way))
    (λ other. inr (λ e. other (ap (λ x. x.direction) e)))
    (cases_eq s.direction t.direction))
    (λ other. inr (λ e. other (ap (λ x. x.line) e)))
    (cases_eq s.line t.line)

-- a step that stands somewhere among n places is found there
found_step : (n low : ℕ) (steps : List Step) (s : Step) → ∥ Stands low (low + n) steps s ∥₁ → Stands low (low + n) steps s
found_step zero low steps s some = absurd (∥∥₁_elim some (Prim.hlevel props) (λ t. let never : ⊥ = omega (arith, t.from, t.below) in never))
found_step (suc n) low steps s some =
    ⊎_elim
    (λ here. record { place = low + n; from = omega arith; below = omega arith; here = here })
    (λ other.
    let before = found_step n low steps s (∥∥₁_map some (λ t.
    record {
      place = t.place;
      from = t.from;
      below = ⊎_elim (λ e. absurd (other (ap (step_at steps) (sym e) ∙ t.here))) (λ ne. omega (arith, t.below, ne)) (cases_eq t.place (low + n));
      here = t.here;
    })) in
    record { place = before.place; from = before.from; below = omega (arith, before.below); here = before.here })
    (same_step (step_at steps (low + n)) s)

module _ {g : Net} {starts : List ℕ} {steps : List Step} (known : ∥ Indexed g starts steps ∥₁) where
  leaves_found : (v k : ℕ) → v < g.nodes → start starts v ≤ k → k < start starts (v + 1) → Leaves g v (step_at steps k)
  leaves_found v k node from below =
      record {
        inside = ∥∥₁_elim known (Prim.hlevel props) (λ i. (i.sound v k node from below).inside);
        direction = ∥∥₁_elim known (Prim.hlevel props) (λ i. (i.sound v k node from below).direction);
        origin = ∥∥₁_elim known (Prim.hlevel props) (λ i. (i.sound v k node from below).origin);
      }

  rises : (v w : ℕ) → v ≤ w → w ≤ g.nodes → start starts v ≤ start starts w
  rises v w le node = ∥∥₁_elim known (Prim.hlevel props) (λ i. i.ascending v w le node)

  pub indexed_found : Indexed g starts steps
  indexed_found =
      record {
        sound = leaves_found;
        complete = λ v s node leaves.
            let low = start starts v in
            let n = start starts (v + 1) - low in
            let up : start starts (v + 1) ≡ low + n = omega (arith, rises v (v + 1) (omega arith) (omega arith)) in
            let some = ∥∥₁_map known (λ i. subst (λ high. Stands low high steps s) up (i.complete v s node leaves)) in
            subst (λ high. Stands low high steps s) (sym up) (found_step n low steps s some);
        ascending = rises;
        first = ∥∥₁_elim known (Prim.hlevel props) (λ i. i.first);
        total = ∥∥₁_elim known (Prim.hlevel props) (λ i. i.total);
        long = ∥∥₁_elim known (Prim.hlevel props) (λ i. i.long);
        room = ∥∥₁_elim known (Prim.hlevel props) (λ i. i.room);
      }

module _ {g : Net} {starts : List ℕ} {steps : List Step} (indexed : Indexed g starts steps) where
  -- a row lies inside the index
  pub row_ascends : (v : ℕ) → v < g.nodes → start starts v ≤ start starts (v + 1)
  row_ascends v l = indexed.ascending v (v + 1) (omega arith) (omega arith)

  pub row_inside : (v : ℕ) → v < g.nodes → start starts (v + 1) ≤ length steps
  row_inside v l = omega (arith, indexed.ascending (v + 1) g.nodes (omega arith) (omega arith), indexed.total, indexed.room)

-- what is known of every network in memory
module _ (g : Graph) where
  pub indexed : Indexed (net g) g.starts.now g.steps.now
  indexed = indexed_found g.indexed

  module _ (v : ℕ) (node : v < g.nodes) where
    pub row_length : length (row_of g v) ≡ start g.starts.now (v + 1) - start g.starts.now v
    row_length =
        let inside = row_inside indexed v node in
        length-take-le _ _ (omega (arith, length-drop (start g.starts.now v) g.steps.now))

    pub row_step : (i : ℕ) → i < length (row_of g v) → slice_index_or (row_of g v) i (along 0) ≡ step_at g.steps.now (start g.starts.now v + i)
    row_step i below = get_or-take _ _ i (along 0) (omega (arith, row_length)) ∙ get_or-drop (start g.starts.now v) g.steps.now i (along 0)
