-- The search from the lacking nodes to its end.
use Rattle.std.proofs.Common.{◌≡◌, ℕ, ◌+◌, ◌<◌, ◌≤◌, List, [], length, get_or, set, sym, ap, ◌∙◌, subst, inl, inr, arith, below_more}
use Rattle.std.proofs.lemmas.List.{get_or-set_other}
use Rattle.std.proofs.lemmas.Bool.{cases_eq, cases_lt}
use Rattle.network.specs.Net.{Net, Limits, line, tail, head}
use Rattle.network.specs.Records.{net_of}
use Rattle.flows.proofs.Sums.{count_le}
use Rattle.reach.specs.Levels.{level, Near, near, Finished, Levelled}
use Rattle.reach.specs.Search.{Front, Grown, Seeded, Spreading}
use Rattle.reach.proofs.Front.{front_none, front_more, front_room, level_new, grown_none, grown_then}

-- no node is reached at first
pub seeded_none : (n : ℕ) (lack : ℕ → ℕ) (cells : List ℕ) (count : ℕ) (distance : List ℕ) → count ≡ 0 → length cells ≡ n → length distance ≡ n
    → ((v : ℕ) → v < n → level distance v ≡ n) → Seeded n lack 0 cells count distance
seeded_none n lack cells count distance none places long far =
    record {
      front = λ lines f. subst (λ c. Front (net_of n lines) f cells c distance) (sym none) (front_none (net_of n lines) f cells distance places long far);
      lacking = λ v l. absurd (omega arith);
      zeros = λ v l z. absurd (omega (arith, far v l));
      later = λ v l _. far v l;
    }

module _ {n : ℕ} {lack : ℕ → ℕ} {k : ℕ} {cells : List ℕ} {count : ℕ} {distance : List ℕ} (now : Seeded n lack k cells count distance) (node : k < n) where
  -- a node that lacks nothing is passed over
  pub seeded_skip : lack k ≡ 0 → Seeded n lack (k + 1) cells count distance
  seeded_skip none =
      record {
        front = now.front;
        lacking = below_more (λ v. 0 < lack v → level distance v ≡ 0) k now.lacking (λ some. absurd (omega arith));
        zeros = now.zeros;
        later = λ v l h. now.later v l (omega arith);
      }

  far : n ≤ level distance k
  far = omega (arith, now.later k node (omega arith))

  -- and any other is reached
  pub seeded_room : count < n
  seeded_room = front_room (now.front [] (λ _. 0)) k node far

  pub seeded_more : 0 < lack k → Seeded n lack (k + 1) (set cells count k) (count + 1) (set distance k 0)
  seeded_more some =
      record {
        front = λ ls f. front_more (now.front ls f) k 0 node far (omega arith) (λ h. absurd (omega arith));
        lacking =
            below_more (λ v. 0 < lack v → level (set distance k 0) v ≡ 0) k
            (λ v l h. get_or-set_other distance k v 0 0 (λ e. omega arith) ∙ now.lacking v l h)
            (λ _. level_new (now.front [] (λ _. 0)) k 0 node far (omega arith));
        zeros =
            λ v l z.
            elim (cases_eq v k) [
              | inl e ↦ omega (arith, ap lack e)
              | inr e ↦ now.zeros v l (sym (get_or-set_other distance k v 0 0 e) ∙ z)
            ];
        later = λ v l h. get_or-set_other distance k v 0 0 (λ e. omega arith) ∙ now.later v l (omega arith);
      }

-- all nodes, by another name for how many there are
pub seeded_all : {n m : ℕ} {lack : ℕ → ℕ} {cells : List ℕ} {count : ℕ} {distance : List ℕ} → n ≡ m → Seeded n lack n cells count distance
    → Seeded m lack m cells count distance
seeded_all {n} {m} {lack} {cells} {count} {distance} e now = subst (λ k. Seeded k lack k cells count distance) e now

-- a finished node stays finished when more nodes are reached
finished_grown : (g : Net) → Limits g → (f : ℕ → ℕ) (distance distance' : List ℕ) (v : ℕ)
    → ((w : ℕ) → w < g.nodes → Near g distance w → level distance' w ≡ level distance w) → Finished g f distance v → Finished g f distance' v
finished_grown g lim f distance distance' v levels h =
    record {
      along = λ i l e more. let old = h.along i l e more in omega (arith, levels (tail (line g i)) (lim.each i l).tail old);
      against = λ i l e less. let old = h.against i l e less in omega (arith, levels (head (line g i)) (lim.each i l).head old);
    }

pub spreading_none : (g : Net) (f : ℕ → ℕ) (cells : List ℕ) (count : ℕ) (distance : List ℕ) → Front g f cells count distance
    → Spreading g f cells count distance 0 cells count distance
spreading_none g f cells count distance front =
    record { front = front; grown = grown_none g cells count distance; finished = λ k l. absurd (omega arith); inside = omega arith }

-- one visit more
pub spreading_more : {g : Net} {f : ℕ → ℕ} {cells : List ℕ} {count : ℕ} {distance : List ℕ} {done : ℕ} {cells' : List ℕ} {count' : ℕ}
    {distance' cells'' : List ℕ} {count'' : ℕ} {distance'' : List ℕ} → Limits g → Spreading g f cells count distance done cells' count' distance'
    → done < count' → Front g f cells'' count'' distance'' → Grown g cells' count' distance' cells'' count'' distance'' → Finished g f distance'' (get_or cells' done 0)
    → Spreading g f cells count distance (done + 1) cells'' count'' distance''
spreading_more {g} {f} {cells} {count} {distance} {done} {cells'} {count'} {distance'} {cells''} {count''} {distance''} lim now l front grown new =
    record {
      front = front;
      grown = grown_then now.grown grown;
      finished =
          below_more (λ k. Finished g f distance'' (get_or cells'' k 0)) done
          (λ k m.
          subst (Finished g f distance'') (sym (grown.same k (omega arith)))
          (finished_grown g lim f distance' distance'' (get_or cells' k 0) grown.levels (now.finished k m)))
          (subst (Finished g f distance'') (sym (grown.same done l)) new);
      inside = omega (arith, grown.longer);
    }

-- and none more
pub spreading_all : {g : Net} {f : ℕ → ℕ} {cells : List ℕ} {count : ℕ} {distance : List ℕ} {done : ℕ} {cells' : List ℕ} {count' : ℕ} {distance' : List ℕ}
    → Spreading g f cells count distance done cells' count' distance' → count' ≤ done → Spreading g f cells count distance count' cells' count' distance'
spreading_all {g} {f} {cells} {count} {distance} {done} {cells'} {count'} {distance'} now past =
    subst (λ n. Spreading g f cells count distance n cells' count' distance') (omega (arith, now.inside)) now

-- the queue never holds more than all the nodes
pub front_fits : {g : Net} {f : ℕ → ℕ} {cells : List ℕ} {count : ℕ} {distance : List ℕ} → Front g f cells count distance → count ≤ g.nodes
front_fits {g} {f} {cells} {count} {distance} front = omega (arith, front.counted, count_le g.nodes (near g distance))

-- what the search has come to when all reached nodes are visited
pub levelled : {g : Net} {f lack : ℕ → ℕ} {cells : List ℕ} {count : ℕ} {distance cells' : List ℕ} {count' : ℕ} {distance' : List ℕ}
    → Seeded g.nodes lack g.nodes cells count distance → Spreading g f cells count distance count' cells' count' distance' → Levelled g f lack distance'
levelled {g} {f} {lack} {cells} {count} {distance} {cells'} {count'} {distance'} seeds now =
    record {
      lacking = λ v l some. let zero = seeds.lacking v l some in omega (arith, now.grown.levels v l (omega arith));
      down =
          λ v l near none.
          elim (cases_lt 0 (level distance' v)) [
            | inl some ↦ now.front.down v l near some
            | inr zero ↦ absurd (omega (arith, seeds.zeros v l (now.grown.zeros v l (omega arith))))
          ];
      finished =
          λ v l near.
          let q = now.front.queued v l near in
          subst (Finished g f distance') q.here (now.finished q.place q.below);
    }
