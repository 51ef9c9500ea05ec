-- The visit of a node, step by step.
use Rattle.std.proofs.Common.{◌≡◌, ℕ, ◌+◌, ◌<◌, ◌≤◌, true, false, List, length, sym, ap, ◌∙◌, subst, inl, inr, arith}
use Rattle.std.proofs.lemmas.Bool.{both_ways, cases_lt}
use Rattle.buffers.specs.declared.marks.Marks.{Marks}
use Rattle.buffers.specs.declared.places.Places.{Places}
use Rattle.network.specs.Net.{Net}
use Rattle.index.specs.Graph.{net, row_of}
use Rattle.index.specs.Rows.{Leaves, step_at}
use Rattle.index.specs.Steps.{target}
use Rattle.index.specs.declared.graph.Graph.{Graph}
use Rattle.index.specs.declared.step.Step.{Step}
use Rattle.verdicts.specs.Search.{Adds, Found, found, Finished, Grows, Listed, passable, reached}
use Rattle.verdicts.proofs.Growth.{adds_it, adds_other, grows_none, grows_then, grows_adds}
use Rattle.verdicts.proofs.Rows.{row_complete}

-- the memory is still the lender's
pub record Kept (marks : Marks) (list : Places ℕ) (marks' : Marks) (list' : Places ℕ) : Type 0 where
  pub bytes : marks'.bytes.ghost_name ≡ marks.bytes.ghost_name
  pub cells : list'.cells.ghost_name ≡ list.cells.ghost_name

-- A node, visited from the first step of its row to the one before k, with what was found before and what is found now.
pub record Visiting (g : Net) (f : List ℕ) (avoid sought : ℕ) (row : List Step) (k : ℕ) (s t : Found) : Type 0 where
  pub grows : Grows g f avoid s t
  pub unseen : reached t sought ≡ false
  pub passed : (j : ℕ) → j < k → passable g f avoid (step_at row j) ≡ true → reached t (target g (step_at row j)) ≡ true

-- a visit on its way, in memory that the lender has back
abbrev pub Underway : Net → List ℕ → ℕ → ℕ → List Step → ℕ → Marks → Places ℕ → Marks → Places ℕ → Type 0
Underway g f avoid sought row k marks list marks' list' =
    Kept marks list marks' list' × Visiting g f avoid sought row k (found marks list) (found marks' list')

module _ {g : Net} {f : List ℕ} {avoid sought : ℕ} {row : List Step} {s : Found} where
  pub visiting_none : Listed s → reached s sought ≡ false → Visiting g f avoid sought row 0 s s
  visiting_none listed unseen = record { grows = grows_none g f avoid s listed; unseen = unseen; passed = λ j below. absurd (omega arith) }

  module _ {t : Found} {k : ℕ} (visiting : Visiting g f avoid sought row k s t) where
    -- a step that the search may not take
    pub visiting_past : false ≡ passable g f avoid (step_at row k) → Visiting g f avoid sought row (k + 1) s t
    visiting_past shut =
        record {
          grows = visiting.grows;
          unseen = visiting.unseen;
          passed = λ j below may.
              elim (cases_lt j k) [
                | inl before ↦ visiting.passed j before may
                | inr here ↦
                    let same : j ≡ k = omega arith in
                    absurd (both_ways (passable g f avoid (step_at row k)) (sym shut) (ap (λ i. passable g f avoid (step_at row i)) (sym same) ∙ may))
              ];
        }

    module _ {u : Found} {v : ℕ} (leaves : Leaves g v (step_at row k)) (from : reached s v ≡ true) (may : true ≡ passable g f avoid (step_at row k))
        (next : ℕ) (end : next ≡ target g (step_at row k)) (adds : Adds next t u)
      where
        step_grows : Grows g f avoid t u
        step_grows =
            grows_adds g f avoid (step_at row k) leaves.inside (sym may)
            (ap (reached t) leaves.origin ∙ visiting.grows.wider v from) (subst (λ w. Adds w t u) end adds)

        pub visit_grows : Grows g f avoid s u
        visit_grows = grows_then g f avoid visiting.grows step_grows

        -- a step that it takes, to another node than the one that is sought
        pub visiting_more : (next ≡ sought → ⊥) → Visiting g f avoid sought row (k + 1) s u
        visiting_more other =
            record {
              grows = visit_grows;
              unseen = adds_other adds sought (λ e. other (sym e)) ∙ visiting.unseen;
              passed = λ j below taken.
                  elim (cases_lt j k) [
                    | inl before ↦ step_grows.wider _ (visiting.passed j before taken)
                    | inr here ↦
                        let same : j ≡ k = omega arith in
                        ap (λ i. reached u (target g (step_at row i))) same ∙ ap (reached u) (sym end) ∙ adds_it adds
                  ];
            }

        -- or to the one that is sought
        pub visit_finds : next ≡ sought → reached u sought ≡ true
        visit_finds same = ap (reached u) (sym same) ∙ adds_it adds

-- all steps of the row are passed
pub visited : (g : Graph) {f : List ℕ} {avoid sought : ℕ} (v : ℕ) {row : List Step} {k : ℕ} {s t : Found} → v < g.nodes → row ≡ row_of g v → length row ≤ k
    → Visiting (net g) f avoid sought row k s t → (reached t sought ≡ false) × Finished (net g) f avoid t v
visited g {f} {avoid} {sought} v {row} {k} {s} {t} node is all visiting = (visiting.unseen, done)
  where
    done : Finished (net g) f avoid t v
    done step leaves may =
        let stands = row_complete g v node is step leaves in
        subst (λ s. reached t (target (net g) s) ≡ true) stands.here
        (visiting.passed stands.place (omega (arith, stands.below)) (ap (passable (net g) f avoid) stands.here ∙ may))
