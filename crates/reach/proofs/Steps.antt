-- Steps and their reverse, and the rows of the index in which they stand.
use Rattle.std.proofs.Common.{◌≡◌, ℕ, zero, suc, ◌+◌, ◌-◌, ◌<◌, Bool, true, false, cond, eqb, length, sym, refl, ap, ◌∙◌, subst, arith}
use Rattle.network.specs.Net.{Net, Limits, size, line, tail, head}
use Rattle.index.specs.Graph.{net, row_of}
use Rattle.index.specs.Rows.{Leaves, Stands, start, step_at}
use Rattle.index.specs.Steps.{origin, target}
use Rattle.index.specs.declared.graph.Graph.{Graph}
use Rattle.index.specs.declared.step.Step.{Step}
use Rattle.index.proofs.Found.{indexed, row_ascends, row_length, row_step}
use Rattle.reach.specs.Room.{reversed}

turned : (d : ℕ) → d < 2 → (x y : ℕ) → cond (eqb (1 - d) 0) x y ≡ cond (eqb d 0) y x
turned zero l x y = refl
turned (suc zero) l x y = refl
turned (suc (suc d)) l x y = absurd (omega arith)

module _ (g : Net) where
  -- the reverse of a step leaves the node that the step comes to, and comes to the one that it leaves
  pub origin_reversed : (s : Step) → s.direction < 2 → origin g (reversed s) ≡ target g s
  origin_reversed s l = turned s.direction l (tail (line g s.line)) (head (line g s.line))

  pub target_reversed : (s : Step) → s.direction < 2 → target g (reversed s) ≡ origin g s
  target_reversed s l = turned s.direction l (head (line g s.line)) (tail (line g s.line))

  pub leaves_reversed : (v : ℕ) (s : Step) → Leaves g v s → Leaves g (target g s) (reversed s)
  leaves_reversed v s h =
      record { inside = h.inside; direction = omega arith; origin = origin_reversed s h.direction }

  -- a step comes to a node
  pub target_inside : Limits g → (s : Step) → s.line < size g → target g s < g.nodes
  target_inside lim s l = pick (eqb s.direction 0) (lim.each s.line l).head (lim.each s.line l).tail
    where
      pick : (b : Bool) {x y : ℕ} → x < g.nodes → y < g.nodes → cond b x y < g.nodes
      pick true p q = p
      pick false p q = q

-- what is known of the steps of a row
module _ (graph : Graph) (v : ℕ) (node : v < graph.nodes) where
  pub row_leaves : (i : ℕ) → i < length (row_of graph v) → Leaves (net graph) v (step_at (row_of graph v) i)
  row_leaves i below =
      let known = indexed graph in
      let ascends = row_ascends known v node in
      subst (Leaves (net graph) v) (sym (row_step graph v node i below))
      (known.sound v (start graph.starts.now v + i) node (omega arith) (omega (arith, row_length graph v node)))

  -- each step that leaves the node stands in its row
  pub row_complete : (s : Step) → Leaves (net graph) v s → Stands 0 (length (row_of graph v)) (row_of graph v) s
  row_complete s leaves =
      let known = indexed graph in
      let stands = known.complete v s node leaves in
      let below : stands.place - start graph.starts.now v < length (row_of graph v) = omega (arith, row_length graph v node, stands.from, stands.below) in
      record {
        place = stands.place - start graph.starts.now v;
        from = omega arith;
        below = below;
        here =
            row_step graph v node (stands.place - start graph.starts.now v) below
            ∙ ap (step_at graph.steps.now) (omega (arith, stands.from)) ∙ stands.here;
      }
