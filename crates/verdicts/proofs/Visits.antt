-- The visits of the listed nodes, one after the other, and what they come to.
use Rattle.std.proofs.Common.{◌≡◌, ℕ, ◌+◌, ◌<◌, ◌≤◌, true, false, not, eqb, List, Some, None, length, sym, refl, ◌∙◌, subst, inl, inr, arith, below_more}
use Rattle.std.specs.List.{slice_get}
use Rattle.std.proofs.lemmas.Bool.{and_from, cases_lt, lt-ltb, ne_eqb, not_from_false}
use Rattle.std.proofs.lemmas.Option.{slice_get_past}
use Rattle.std.proofs.lemmas.List.{length-take-le}
use Rattle.network.specs.Net.{Net, line, tail, head, least, most}
use Rattle.network.specs.Flow.{at}
use Rattle.flows.specs.Bounds.{Closed}
use Rattle.flows.proofs.Trails.{shut_by}
use Rattle.buffers.specs.Places.{elements}
use Rattle.buffers.proofs.Elements.{get_some}
use Rattle.buffers.specs.declared.marks.Marks.{Marks}
use Rattle.buffers.specs.declared.places.Places.{Places}
use Rattle.index.specs.Steps.{along, against}
use Rattle.verdicts.specs.Search.{Found, found, Finished, Grows, Listed, Visits, node_at, reached}
use Rattle.verdicts.proofs.Growth.{grows_none, grows_then}
use Rattle.verdicts.proofs.Visit.{Kept}

-- the list holds no more nodes than it has places
pub listed_fits : {s : Found} → Listed s → s.len ≤ length s.cells
listed_fits listed = omega (arith, listed.once, listed.places)

-- what the list answers at a place: the node that stands there, or that none does
module _ (s : Found) (listed : Listed s) (read : ℕ) where
  pub read_some : (v : ℕ) → Some v ≡ slice_get (elements s.cells s.len) read → (read < s.len) × (node_at s read ≡ v)
  read_some v e =
      elim (cases_lt read s.len) [
        | inl below ↦ (below, let is = get_some s.cells s.len read 0 below (listed_fits listed) in cc)
        | inr past ↦
            let long = length-take-le s.len s.cells (listed_fits listed) in
            let none = slice_get_past (elements s.cells s.len) read (omega arith) in
            absurd (let never : ◌≡◌ {A = ℕ} 0 1 = cc in omega arith)
      ]

  pub read_none : None ≡ slice_get (elements s.cells s.len) read → s.len ≤ read
  read_none e =
      elim (cases_lt read s.len) [
        | inl below ↦
            let is = get_some s.cells s.len read 0 below (listed_fits listed) in
            absurd (let never : ◌≡◌ {A = ℕ} 0 1 = cc in omega arith)
        | inr past ↦ past
      ]

-- A search on its way: the nodes before the place that it reads are finished.
pub record Searching (g : Net) (f : List ℕ) (avoid sought read : ℕ) (s t : Found) : Type 0 where
  pub grows : Grows g f avoid s t
  pub unseen : reached t sought ≡ false
  pub listed : read ≤ t.len
  pub finished : (k : ℕ) → k < read → Finished g f avoid t (node_at t k)

abbrev pub Underway : Net → List ℕ → ℕ → ℕ → ℕ → Marks → Places ℕ → Marks → Places ℕ → Type 0
Underway g f avoid sought read marks list marks' list' =
    Kept marks list marks' list' × Searching g f avoid sought read (found marks list) (found marks' list')

pub searching_none : (g : Net) (f : List ℕ) (avoid sought : ℕ) (s : Found) → Listed s → reached s sought ≡ false
    → Searching g f avoid sought 0 s s
searching_none g f avoid sought s listed unseen =
    record { grows = grows_none g f avoid s listed; unseen = unseen; listed = omega arith; finished = λ k h. absurd (omega arith) }

-- a node is visited
module _ {g : Net} {f : List ℕ} {avoid sought read : ℕ} {s t u : Found}
    (searching : Searching g f avoid sought read s t) (grows : Grows g f avoid t u)
  where
    pub search_grows : Grows g f avoid s u
    search_grows = grows_then g f avoid searching.grows grows

    -- the node that is read next is finished, and the one that is sought not found
    pub searching_more : (v : ℕ) → read < t.len → node_at t read ≡ v → Visits g f avoid u v sought false
        → Searching g f avoid sought (read + 1) s u
    searching_more v below is visits =
        record {
          grows = search_grows;
          unseen = visits.0;
          listed = omega (arith, grows.longer);
          finished =
              below_more _ _
              (λ k h.
              subst Done (sym (grows.kept k (omega (arith, searching.listed))))
              (λ step leaves may. grows.wider _ (searching.finished k h step leaves may)))
              (subst Done (sym (grows.kept read below ∙ is)) visits.1);
        }
      where
        Done : ℕ → Type 0
        Done = Finished g f avoid u

-- where every listed node is finished, no step but over the line to avoid leads out
pub closed_by : {g : Net} {f : List ℕ} {avoid sought read : ℕ} {s t : Found} → Searching g f avoid sought read s t → t.len ≤ read → Closed g (at f) (reached t) avoid
closed_by {g} {f} {avoid} {sought} {read} {s} {t} searching all i inside other =
    shut_by (reached t) (line g i) (at f i)
    (λ from room.
    done (tail (line g i)) from (along i) (record { inside = inside; direction = omega arith; origin = refl })
    (and_from (not (eqb i avoid)) _ apart (lt-ltb (at f i) (most (line g i)) room)))
    (λ from room.
    done (head (line g i)) from (against i) (record { inside = inside; direction = omega arith; origin = refl })
    (and_from (not (eqb i avoid)) _ apart (lt-ltb (least (line g i)) (at f i) room)))
  where
    apart : not (eqb i avoid) ≡ true
    apart = not_from_false (eqb i avoid) (ne_eqb i avoid other)

    done : (v : ℕ) → reached t v ≡ true → Finished g f avoid t v
    done v e =
        let waits = searching.grows.listed.listed v e in
        subst (Finished g f avoid t) waits.here (searching.finished waits.place (omega (arith, waits.below)))
