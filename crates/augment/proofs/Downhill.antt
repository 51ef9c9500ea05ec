-- A walk under way: a step down, a step back, and why it ends.
use Rattle.std.proofs.Common.{◌≡◌, ℕ, ◌+◌, ◌-◌, ◌*◌, ◌<◌, ◌≤◌, List, length, set, Some, None, sym, ap, ◌∙◌, subst, arith}
use Rattle.network.specs.Net.{size}
use Rattle.flows.specs.Bounds.{Within}
use Rattle.index.specs.Graph.{net}
use Rattle.index.specs.Rows.{Leaves, step_at}
use Rattle.index.specs.Steps.{origin, target}
use Rattle.index.specs.declared.graph.Graph.{Graph}
use Rattle.index.specs.declared.step.Step.{Step}
use Rattle.reach.specs.Levels.{level, Near, LeadsDown}
use Rattle.index.proofs.Found.{indexed, row_inside}
use Rattle.augment.specs.Cursors.{place, row_end, ahead, Cursors, Fresh, Advanced}
use Rattle.augment.specs.Walks.{Walk, Behind, Retraceable, TakenBack, Descending}
use Rattle.augment.proofs.Cursors.{cursors_set, ahead_set, fresh_set, fresh_found, place_set}
use Rattle.augment.proofs.Walks.{walk_cursor, walk_room, walk_more, walk_less}

module _ {graph : Graph} {f : ℕ → ℕ} {distance cursor : List ℕ} {lack : ℕ → ℕ} {a : ℕ} {cursor' : List ℕ} {b : ℕ} {cells : List Step} {count : ℕ}
    (now : Descending graph f lack distance cursor a cursor' b cells count) (bounds : Within (net graph) f) (near : Near (net graph) distance a)
  where
    -- the walk's end is reached too
    close : Near (net graph) distance b
    close = omega (arith, now.walk.fall)

    -- where the cursors stand after one went on
    module _ {cursor'' : List ℕ} (p : ℕ) (on : place cursor' b ≤ p) (to : p ≤ row_end graph b) (moved : cursor'' ≡ set cursor' b p) where
      cursors_on : Cursors graph cursor''
      cursors_on = subst (Cursors graph) (sym moved) (cursors_set now.cursors b p now.walk.node on to)

      walk_on : Walk graph f distance cursor'' a b cells count
      walk_on = subst (λ c. Walk graph f distance c a b cells count) (sym moved) (walk_cursor now.walk p)

      fewer : ahead graph cursor'' ≤ ahead graph cursor'
      fewer = omega (arith, ahead_set now.cursors b p now.walk.node on to, ap (ahead graph) moved)

    -- a step down
    module _ {cursor'' : List ℕ} {s : Step} (adv : Advanced graph f distance b cursor' cursor'' (Some s)) where
      leaves : Leaves (net graph) b s
      leaves =
          subst (Leaves (net graph) b) (sym adv.stands.here)
          ((indexed graph).sound b adv.to now.walk.node (omega (arith, now.cursors.low b now.walk.node, adv.sought.low)) adv.stands.below)

      leads : LeadsDown (net graph) f distance b s
      leads = subst (LeadsDown (net graph) f distance b) (sym adv.stands.here) (adv.sought.found adv.stands.below)

      pub descent_inside : s.line < size (net graph)
      descent_inside = leaves.inside

      pub descent_room : count < length cells
      descent_room = walk_room now.walk s leads near

      pub descent_more : Descending graph f lack distance cursor a cursor'' (target (net graph) s) (set cells count s) (count + 1)
      descent_more =
          record {
            cursors = cursors;
            walk =
                walk_more (walk_on adv.to adv.sought.low adv.sought.high adv.moved) bounds s leaves leads near
                (omega (arith, now.walk.node, cursors.long)) (omega (arith, here, adv.stands.below));
            fresh =
                λ h.
                subst (Fresh graph f lack distance) (sym adv.moved)
                (fresh_set cursor' adv.sought lack (omega (arith, now.walk.node, now.cursors.long)) (now.fresh h));
          }
        where
          cursors : Cursors graph cursor''
          cursors = cursors_on adv.to adv.sought.low adv.sought.high adv.moved

          here : place cursor'' b ≡ adv.to
          here = ap (λ c. place c b) adv.moved ∙ place_set now.cursors b adv.to now.walk.node

      pub descent_less : 2 * ahead graph cursor'' + level distance (target (net graph) s) < 2 * ahead graph cursor' + level distance b
      descent_less = omega (arith, fewer adv.to adv.sought.low adv.sought.high adv.moved, leads.lower)

    -- a row that has no more steps down
    module _ {cursor'' : List ℕ} (adv : Advanced graph f distance b cursor' cursor'' None) where
      pub descent_cursors : Cursors graph cursor''
      descent_cursors = cursors_on adv.to adv.sought.low adv.sought.high adv.moved

      -- then some cursor had passed one
      pub descent_shut : lack b ≡ 0 → Fresh graph f lack distance cursor → ⊥
      descent_shut none h =
          omega (arith, adv.stands, fresh_found cursor' adv.sought (now.fresh h b now.walk.node close none))

      -- and the last step is taken back
      behind : 0 < count → Behind graph f distance cursor'' a b cells count
      behind some = walk_less (walk_on adv.to adv.sought.low adv.sought.high adv.moved) some

      pub descent_back : 0 < count → Retraceable (net graph) cursor'' (step_at cells (count - 1))
      descent_back some =
          let h = behind some in
          record {
            inside = h.inside;
            node = omega (arith, h.node, descent_cursors.long);
            room =
                omega (
                  arith,
                  h.held,
                  row_inside (indexed graph) (origin (net graph) (step_at cells (count - 1))) h.node,
                  (indexed graph).room,
                  graph.limits.count,
                );
          }

      module _ (none : lack b ≡ 0) {v : ℕ} {cursor''' : List ℕ} (back : TakenBack cursor'' (origin (net graph) (step_at cells (count - 1))) count cursor''' v) where
        node : v < graph.nodes
        node = omega (arith, back.node, (behind back.some).node)

        before : place cursor'' v < row_end graph v
        before = subst (λ w. place cursor'' w < row_end graph w) (sym back.node) (behind back.some).held

        pub ascent_more : Descending graph f lack distance cursor a cursor''' v cells (count - 1)
        ascent_more =
            record {
              cursors = subst (Cursors graph) (sym back.on) (cursors_set descent_cursors v (place cursor'' v + 1) node (omega arith) (omega (arith, before)));
              walk =
                  subst (λ c. Walk graph f distance c a v cells (count - 1)) (sym back.on)
                  (walk_cursor
                  (subst (λ w. Walk graph f distance cursor'' a w cells (count - 1)) (sym back.node) (behind back.some).walk) (place cursor'' v + 1));
              fresh = λ h. absurd (descent_shut none h);
            }

        pub ascent_less : 2 * ahead graph cursor''' + level distance v < 2 * ahead graph cursor' + level distance b
        ascent_less =
            omega (
              arith,
              fewer adv.to adv.sought.low adv.sought.high adv.moved,
              ahead_set descent_cursors v (place cursor'' v + 1) node (omega arith) (omega (arith, before)),
              ap (ahead graph) back.on,
              ap (level distance) back.node,
              (behind back.some).higher,
            )
