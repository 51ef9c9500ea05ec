-- Cursors that go on.
use Rattle.std.proofs.Common.{◌≡◌, ℕ, ◌+◌, ◌-◌, ◌<◌, ◌≤◌, List, length, set, sym, ap, ◌∙◌, subst, inl, inr, arith}
use Rattle.std.proofs.lemmas.List.{length-set, get_or-set_same, get_or-set_other}
use Rattle.std.proofs.lemmas.Bool.{cases_eq, cases_lt}
use Rattle.flows.proofs.Sums.{upto_change}
use Rattle.index.specs.Graph.{net}
use Rattle.index.specs.Rows.{start, step_at}
use Rattle.index.specs.declared.graph.Graph.{Graph}
use Rattle.reach.specs.Levels.{LeadsDown, Levelled}
use Rattle.index.proofs.Found.{indexed, row_ascends}
use Rattle.augment.specs.Cursors.{place, row_end, Cursors, ahead, DownFrom, Fresh, Sought}

-- where a cursor is put
pub place_set : {graph : Graph} {cursor : List ℕ} → Cursors graph cursor → (v p : ℕ) → v < graph.nodes → place (set cursor v p) v ≡ p
place_set {graph} {cursor} cursors v p node = get_or-set_same cursor v p 0 (omega (arith, cursors.long))

module _ {graph : Graph} {cursor : List ℕ} (cursors : Cursors graph cursor) (v p : ℕ) (node : v < graph.nodes) (on : place cursor v ≤ p) (to : p ≤ row_end graph v)
  where
    here : place (set cursor v p) v ≡ p
    here = place_set cursors v p node

    there : (w : ℕ) → (w ≡ v → ⊥) → place (set cursor v p) w ≡ place cursor w
    there w e = get_or-set_other cursor v w p 0 e

    pub cursors_set : Cursors graph (set cursor v p)
    cursors_set =
        record {
          long = length-set cursor v p ∙ cursors.long;
          low =
              λ w l.
              elim (cases_eq w v) [
                | inl e ↦ subst (λ u. start graph.starts.now u ≤ place (set cursor v p) u) (sym e) (omega (arith, here, cursors.low v node))
                | inr e ↦ omega (arith, there w e, cursors.low w l)
              ];
          high =
              λ w l.
              elim (cases_eq w v) [
                | inl e ↦ subst (λ u. place (set cursor v p) u ≤ row_end graph u) (sym e) (omega (arith, here))
                | inr e ↦ omega (arith, there w e, cursors.high w l)
              ];
        }

    -- a cursor that goes on has fewer places before it
    pub ahead_set : ahead graph (set cursor v p) + p ≡ ahead graph cursor + place cursor v
    ahead_set =
        omega (
          arith,
          upto_change graph.nodes v (λ w. row_end graph w - place (set cursor v p) w) (λ w. row_end graph w - place cursor w) node
              (λ w _ e. ap (λ x. row_end graph w - x) (there w e)),
          here,
        )

-- the search for a step down passes none
module _ {graph : Graph} {f : ℕ → ℕ} {distance : List ℕ} {v p : ℕ} (cursor : List ℕ)
    (sought : Sought graph f distance v (place cursor v) p) where
  pub fresh_set : (lack : ℕ → ℕ) → v < length cursor → Fresh graph f lack distance cursor → Fresh graph f lack distance (set cursor v p)
  fresh_set lack inside fresh w l near none =
      elim (cases_eq w v) [
        | inl e ↦
            let old = fresh w l near none in
            record {
              place = old.place;
              from =
                  elim (cases_lt old.place p) [
                    | inl m ↦
                        absurd
                        (sought.passed old.place m (omega (arith, old.from, ap (place cursor) e))
                        (subst (λ u. LeadsDown (net graph) f distance u (step_at graph.steps.now old.place)) e old.leads))
                    | inr m ↦ omega (arith, ap (place (set cursor v p)) e, get_or-set_same cursor v p 0 inside)
                  ];
              below = old.below;
              leads = old.leads;
            }
        | inr e ↦
            let old = fresh w l near none in
            record { place = old.place; from = omega (arith, old.from, get_or-set_other cursor v w p 0 e); below = old.below; leads = old.leads }
      ]

  -- so the row does not end before a step down that is before the cursor
  pub fresh_found : DownFrom graph f distance v (place cursor v) → p < row_end graph v
  fresh_found down =
      elim (cases_lt p (row_end graph v)) [
        | inl m ↦ m
        | inr m ↦ absurd (sought.passed down.place (omega (arith, down.below)) down.from down.leads)
      ]

-- every cursor at the beginning of its row
pub cursors_start : (graph : Graph) (cursor : List ℕ) → length cursor ≡ graph.nodes
    → ((v : ℕ) → v < graph.nodes → place cursor v ≡ start graph.starts.now v) → Cursors graph cursor
cursors_start graph cursor long begin =
    record {
      long = long;
      low = λ v l. omega (arith, begin v l);
      high = λ v l. omega (arith, begin v l, row_ascends (indexed graph) v l);
    }

-- such a cursor has all of its row before it
pub fresh_start : {graph : Graph} {f lack : ℕ → ℕ} {distance : List ℕ} (cursor : List ℕ) → Levelled (net graph) f lack distance → ((v : ℕ) → v < graph.nodes → place cursor v ≡ start graph.starts.now v) → Fresh graph f lack distance cursor
fresh_start {graph} {f} {lack} {distance} cursor levels begin v l near none =
    let down = levels.down v l near none in
    let at = (indexed graph).complete v down.step l down.leaves in
    record {
      place = at.place;
      from = omega (arith, begin v l, at.from);
      below = at.below;
      leads = subst (LeadsDown (net graph) f distance v) (sym at.here) down.leads;
    }
