-- The start of a search, with blank marks and an empty list, and its answer.
use Rattle.std.proofs.Common.{◌≡◌, ℕ, min, Bool, true, false, ◌||◌, eqb, List, ◌++◌, length, replicate, sym, ap, ◌∙◌, inl, inr, arith}
use Rattle.std.proofs.lemmas.List.{append-nil, drop_all, length-replicate}
use Rattle.std.proofs.lemmas.Bool.{both_ways, eqb-true, ne_eqb, or_cases}
use Rattle.network.specs.Net.{Net}
use Rattle.network.specs.Flow.{at}
use Rattle.flows.specs.Trails.{Spread}
use Rattle.flows.proofs.Trails.{spread_start}
use Rattle.buffers.specs.Marks.{blanks, cleared, marked}
use Rattle.buffers.proofs.Blanks.{blanks_cleared, marked_cleared}
use Rattle.verdicts.specs.Search.{Adds, Answer, Ends, Found, Grows, Listed, reached}
use Rattle.verdicts.proofs.Growth.{adds_it}

-- all bytes cleared
pub cleared_all : (bytes : List ℕ) (n : ℕ) → length bytes ≡ n → cleared bytes n ≡ replicate n 0
cleared_all bytes n long = ap (λ rest. replicate n 0 ++ rest) (drop_all n bytes (omega arith)) ∙ append-nil (replicate n 0)

-- as many marks as there are bytes, blank from the start to the end
pub blank_throughout : (bytes after : List ℕ) (n : ℕ) → n ≡ min (length bytes) (length bytes) → after ≡ cleared bytes n
    → cleared after n ≡ replicate (length bytes) 0
blank_throughout bytes after n count written =
    let nodes : length bytes ≡ n = omega arith in
    let long : length after ≡ n = ap length (written ∙ cleared_all bytes n nodes) ∙ length-replicate n 0 in
    cleared_all after n long ∙ ap (λ k. replicate k 0) (sym nodes)

-- blank marks mark no node
pub none_found : (s : Found) (bytes : List ℕ) → s.bytes ≡ cleared bytes s.nodes → (v : ℕ) → reached s v ≡ false
none_found s bytes written v = ap (λ b. marked b s.nodes v) written ∙ marked_cleared bytes s.nodes v

-- Nothing is found yet.
pub record Fresh (n : ℕ) (s : Found) : Type 0 where
  pub nodes : s.nodes ≡ n
  pub listed : Listed s
  pub none : (v : ℕ) → reached s v ≡ false

pub fresh_start : (bytes cells : List ℕ) (s : Found) → length cells ≡ length bytes → s.nodes ≡ min (length bytes) (length bytes)
    → s.bytes ≡ cleared bytes s.nodes → s.cells ≡ cells → s.len ≡ 0 → Fresh (length bytes) s
fresh_start bytes cells s places count written lent empty =
    record {
      nodes = nodes;
      listed =
          record {
            marks = ap length (written ∙ cleared_all bytes s.nodes (sym nodes)) ∙ length-replicate s.nodes 0;
            places = ap length lent ∙ places ∙ sym nodes;
            once = omega (arith, ap (λ b. blanks b s.nodes) written, blanks_cleared bytes s.nodes);
            marked = λ k h. absurd (omega arith);
            listed = λ v e. absurd (both_ways (reached s v) (none v) e);
          };
      none = none;
    }
  where
    nodes : s.nodes ≡ length bytes
    nodes = omega arith

    none : (v : ℕ) → reached s v ≡ false
    none v = ap (λ b. marked b s.nodes v) written ∙ marked_cleared bytes s.nodes v

-- the start alone is found
module _ {s t : Found} (none : (v : ℕ) → reached s v ≡ false) (start : ℕ) (adds : Adds start s t) where
  only_start : (v : ℕ) → reached t v ≡ true → v ≡ start
  only_start v e =
      elim (or_cases (eqb v start) (reached s v) (sym (adds.found v) ∙ e))
      [ inl is ↦ eqb-true v start is | inr is ↦ absurd (both_ways (reached s v) (none v) is) ]

  pub start_spreads : (g : Net) (f : List ℕ) (avoid : ℕ) → Spread g 1 (at f) avoid start (reached t)
  start_spreads g f avoid = spread_start g 1 (at f) avoid start (reached t) only_start

  pub start_unseen : (sought : ℕ) → (start ≡ sought → ⊥) → reached t sought ≡ false
  start_unseen sought other =
      adds.found sought ∙ ap (λ b. b || reached s sought) (ne_eqb sought start (λ e. other (sym e))) ∙ none sought

  -- the start is the node sought
  pub answer_at_once : (g : Net) (f : List ℕ) (avoid sought : ℕ) → start ≡ sought → Answer g f avoid start sought true
  answer_at_once g f avoid sought same =
      record { set = reached t; spread = start_spreads g f avoid; holds = ap (reached t) (sym same) ∙ adds_it adds }

  -- the search has ended
  pub answer_of : {g : Net} {f : List ℕ} {avoid : ℕ} {u : Found} → Grows g f avoid t u → (sought : ℕ) (r : Bool) → Ends g f avoid u sought r
      → Answer g f avoid start sought r
  answer_of {g} {f} {avoid} {u} grows sought true ends =
      record { set = reached u; spread = grows.spread start (start_spreads g f avoid); holds = ends }
  answer_of {g} {f} {avoid} {u} grows sought false ends =
      record { set = reached u; holds = grows.wider start (adds_it adds); lacks = ends.0; closed = ends.1 }
