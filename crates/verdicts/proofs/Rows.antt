-- What a row of a network in memory holds: the steps that leave its node, each over a line of the network, to one of its nodes.
use Rattle.std.proofs.Common.{◌≡◌, ℕ, ◌+◌, ◌-◌, ◌<◌, true, not, eqb, ltb, List, length, sym, ap, ◌∙◌, subst, arith}
use Rattle.std.proofs.lemmas.Bool.{and_parts, both_ways, cond_both, cond-true, cond-false, eq-eqb, ltb-true, not-true}
use Rattle.network.specs.Net.{Net, Limits, size, line, tail, head, least, most}
use Rattle.network.specs.Flow.{at}
use Rattle.network.specs.Records.{net_of}
use Rattle.network.specs.declared.line_record.LineRecord.{LineRecord}
use Rattle.network.proofs.Records.{size_is}
use Rattle.flows.specs.Steps.{HasRoom}
use Rattle.index.specs.Graph.{net, row_of}
use Rattle.index.specs.Rows.{Leaves, Stands, start, step_at}
use Rattle.index.specs.Steps.{origin, target}
use Rattle.index.specs.declared.graph.Graph.{Graph}
use Rattle.index.specs.declared.step.Step.{Step}
use Rattle.index.proofs.Found.{indexed, row_length, row_step}
use Rattle.verdicts.specs.Search.{has_room, passable}

-- each step comes to a node of the network
target_inside : (g : Net) → Limits g → (s : Step) → s.line < size g → target g s < g.nodes
target_inside g limits s inside =
    let fit = limits.each s.line inside in
    cond_both (eqb s.direction 0) (head (line g s.line)) (tail (line g s.line)) (λ v. v < g.nodes) (λ _. fit.head) (λ _. fit.tail)

-- a step that a search may take is not over the line to avoid, and has room for one more
pub passable_other : (g : Net) (f : List ℕ) (avoid : ℕ) (s : Step) → passable g f avoid s ≡ true → s.line ≡ avoid → ⊥
passable_other g f avoid s e same =
    both_ways (eqb s.line avoid) (not-true _ (and_parts (not (eqb s.line avoid)) _ e).0) (eq-eqb s.line avoid same)

pub passable_room : (g : Net) (f : List ℕ) (avoid : ℕ) (s : Step) → passable g f avoid s ≡ true → HasRoom g (at f) 1 (s.line, s.direction)
passable_room g f avoid s e =
    let more = ltb (at f s.line) (most (line g s.line)) in
    let less = ltb (least (line g s.line)) (at f s.line) in
    let room = (and_parts (not (eqb s.line avoid)) (has_room g f s) e).1 in
    record {
      more = λ along. omega (arith, ltb-true _ _ (sym (cond-true _ more less along) ∙ room));
      less = λ against. omega (arith, ltb-true _ _ (sym (cond-false _ more less against) ∙ room));
    }

-- where a step goes, as it is read from the lines of a network in memory
pub comes_from : (g : Graph) {lines : List LineRecord} → lines ≡ g.lines.now → (s : Step) {v : ℕ} → v ≡ origin (net_of 0 lines) s → v ≡ origin (net g) s
comes_from g is s e = e ∙ ap (λ x. origin (net_of 0 x) s) is

pub comes_to : (g : Graph) {lines : List LineRecord} → lines ≡ g.lines.now → (s : Step) {v : ℕ} → v ≡ target (net_of 0 lines) s → v ≡ target (net g) s
comes_to g is s e = e ∙ ap (λ x. target (net_of 0 x) s) is

-- the row of a node
module _ (g : Graph) (v : ℕ) (node : v < g.nodes) {row : List Step} (is : row ≡ row_of g v) where
  long_is : length row ≡ start g.starts.now (v + 1) - start g.starts.now v
  long_is = ap length is ∙ row_length g v node

  module _ (i : ℕ) (below : i < length row) where
    step_is : step_at row i ≡ step_at g.steps.now (start g.starts.now v + i)
    step_is = ap (λ r. step_at r i) is ∙ row_step g v node i (omega (arith, ap length is))

    pub row_leaves : Leaves (net g) v (step_at row i)
    row_leaves = subst (Leaves (net g) v) (sym step_is) ((indexed g).sound v _ node (omega arith) (omega (arith, long_is)))

    pub row_line : (step_at row i).line < length g.lines.now
    row_line = omega (arith, row_leaves.inside, size_is g.nodes g.lines.now)

    pub row_target : target (net g) (step_at row i) < g.nodes
    row_target = target_inside (net g) g.limits _ row_leaves.inside

  -- no step that leaves the node is missing
  pub row_complete : (s : Step) → Leaves (net g) v s → Stands 0 (length row) row s
  row_complete s leaves =
      let stands = (indexed g).complete v s node leaves in
      let i = stands.place - start g.starts.now v in
      let below : i < length row = omega (arith, long_is, stands.from, stands.below) in
      let place : start g.starts.now v + i ≡ stands.place = omega (arith, stands.from) in
      record { place = i; from = omega arith; below = below; here = step_is i below ∙ ap (step_at g.steps.now) place ∙ stands.here }
