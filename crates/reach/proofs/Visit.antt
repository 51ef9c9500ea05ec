-- A visit of a reached node: every step with room into it is tried, and then the node is finished.
use Rattle.std.proofs.Common.{◌≡◌, ℕ, ◌+◌, ◌<◌, ◌≤◌, List, length, set, sym, ap, ◌∙◌, subst, arith, below_more}
use Rattle.network.specs.Records.{net_of}
use Rattle.network.specs.declared.line_record.LineRecord.{LineRecord}
use Rattle.index.specs.Graph.{net, row_of}
use Rattle.index.specs.Rows.{Leaves, step_at}
use Rattle.index.specs.Steps.{along, against, target}
use Rattle.index.specs.declared.graph.Graph.{Graph}
use Rattle.index.specs.declared.step.Step.{Step}
use Rattle.reach.specs.Room.{room_of, reversed}
use Rattle.reach.specs.Levels.{level, Near, Down, Finished}
use Rattle.reach.specs.Search.{Front, Tried, RowTried, Visiting}
use Rattle.reach.proofs.Steps.{leaves_reversed, target_reversed, target_inside, row_leaves, row_complete}
use Rattle.reach.proofs.Front.{front_more, grown_one, grown_none, grown_then, front_room, level_new, level_kept}

-- a node is finished once all the steps of its row are tried
pub finished_row : (graph : Graph) {f : ℕ → ℕ} {distance : List ℕ} {v k : ℕ} → v < graph.nodes → length (row_of graph v) ≤ k → RowTried graph f distance v k
    → Finished (net graph) f distance v
finished_row graph {f} {distance} {v} {k} node all tried =
    record {
      along = λ i l e more. back (against i) (record { inside = l; direction = omega arith; origin = e }) (omega arith);
      against = λ i l e more. back (along i) (record { inside = l; direction = omega arith; origin = e }) (omega arith);
    }
  where
    back : (s : Step) → Leaves (net graph) v s → Tried (net graph) f distance s
    back s h = let st = row_complete graph v node s h in subst (Tried (net graph) f distance) st.here (tried st.place (omega (arith, st.below)))

-- nothing is tried when the visit begins
pub visiting_none : (graph : Graph) (f : ℕ → ℕ) (v : ℕ) (cells : List ℕ) (count : ℕ) (distance : List ℕ)
    → Front (net graph) f cells count distance → Visiting graph f v cells count distance 0 cells count distance
visiting_none graph f v cells count distance front =
    record { front = front; grown = grown_none (net graph) cells count distance; tried = λ j l h. absurd (omega arith) }

module _ {graph : Graph} {f : ℕ → ℕ} {v : ℕ} {cells : List ℕ} {count : ℕ} {distance : List ℕ} {k : ℕ} {cells' : List ℕ} {count' : ℕ} {distance' : List ℕ}
    (now : Visiting graph f v cells count distance k cells' count' distance') (node : v < graph.nodes) {row : List Step} (is : row ≡ row_of graph v) (below : k < length row)
  where
    -- the step at place k of the row, as it was read, leaves the node
    pub visit_leaves : Leaves (net graph) v (step_at row k)
    visit_leaves = subst (λ xs. Leaves (net graph) v (step_at xs k)) (sym is) (row_leaves graph v node k (omega (arith, ap length is)))

    pub visit_inside : target (net graph) (step_at row k) < graph.nodes
    visit_inside = target_inside (net graph) graph.limits (step_at row k) visit_leaves.inside

    -- the node that it comes to, where the lines were read too
    pub visit_target : {lines : List LineRecord} → lines ≡ graph.lines.now → {u : ℕ} → u ≡ target (net_of 0 lines) (step_at row k)
        → u ≡ target (net graph) (step_at row k)
    visit_target same to = to ∙ ap (λ ls. target (net_of 0 ls) (step_at row k)) same

    -- a step that needs nothing more
    pub visiting_skip : Tried (net graph) f distance' (step_at row k) → Visiting graph f v cells count distance (k + 1) cells' count' distance'
    visiting_skip t =
        record {
          front = now.front;
          grown = now.grown;
          tried = below_more (λ j. Tried (net graph) f distance' (step_at (row_of graph v) j)) k now.tried (subst (λ xs. Tried (net graph) f distance' (step_at xs k)) is t);
        }

    -- a step over which a new node is reached
    pub visiting_more : Near (net graph) distance v → (u d : ℕ) → u ≡ target (net graph) (step_at row k) → d ≡ level distance v + 1 → graph.nodes ≤ level distance' u
        → 0 < room_of (net graph) f (reversed (step_at row k))
        → Visiting graph f v cells count distance (k + 1) (set cells' count' u) (count' + 1) (set distance' u d)
    visiting_more near u d to high far room =
        record {
          front = front_more now.front u d inside far close (λ _. down);
          grown = grown_then now.grown (grown_one now.front u d inside far close (omega arith));
          tried =
              below_more (λ j. Tried (net graph) f (set distance' u d) (step_at (row_of graph v) j)) k
              (λ j l some. let old = now.tried j l some in omega (arith, level_kept now.front u d inside far close (target (net graph) (step_at (row_of graph v) j)) old))
              (subst (λ xs. Tried (net graph) f (set distance' u d) (step_at xs k)) is
              (λ _. omega (arith, ap (level (set distance' u d)) to, level_new now.front u d inside far close, front_room now.front u inside far)));
        }
      where
        inside : u < graph.nodes
        inside = omega (arith, visit_inside)

        stays : level distance' v ≡ level distance v
        stays = now.grown.levels v node near

        near' : Near (net graph) distance' v
        near' = omega (arith, stays)

        close : d ≤ count'
        close = omega (arith, stays, now.front.low v node near')

        down : Down (net graph) f (set distance' u d) u
        down =
            record {
              step = reversed (step_at row k);
              leaves = subst (λ w. Leaves (net graph) w (reversed (step_at row k))) (sym to) (leaves_reversed (net graph) v (step_at row k) visit_leaves);
              leads =
                  record {
                    room = room;
                    lower =
                        omega (
                          arith,
                          ap (level (set distance' u d)) (target_reversed (net graph) (step_at row k) visit_leaves.direction ∙ visit_leaves.origin),
                          level_kept now.front u d inside far close v near',
                          stays,
                          level_new now.front u d inside far close,
                        );
                  };
            }
