-- What a mark and a clearing leave: how many bytes are blank, and the bytes beyond the marks.
use Rattle.std.proofs.Common.{◌≡◌, ℕ, zero, suc, ◌+◌, ◌<◌, ◌≤◌, false, cond, ◌||◌, eqb, List, length, get_or, take, drop, set, replicate, count_by, refl, ◌∙◌, ⊎_elim, arith}
use Rattle.std.proofs.lemmas.List.{get_or-take, length-take-le, drop_at, take_at, length-replicate, get_or-replicate, get_or_append_left, get_or-set_same, get_or-set_other}
use Rattle.std.proofs.lemmas.Bool.{cases_eq, cases_lt}
use Rattle.std.proofs.lemmas.Bool.Decides.{nat_tests}
use Rattle.std.proofs.lemmas.List.Sums.{sum_by-set, sum_by-cons}
use Rattle.std.proofs.Math.Seq.{take-set-lt}
use Rattle.buffers.specs.Marks.{marked, blanks, cleared}

pub blanks_mark : (bytes : List ℕ) (count v : ℕ) → v < count → count ≤ length bytes → blanks (set bytes v 1) count + cond (eqb (get_or bytes v 0) 0) 1 0 ≡ blanks bytes count
blanks_mark bytes count v inside fits =
    let at = get_or-take count bytes v 0 inside in
    let written = take-set-lt count bytes v 1 inside in
    let long = length-take-le count bytes fits in
    let sums = sum_by-set (λ b. cond (eqb b 0) 1 0) (take count bytes) v 1 0 (omega arith) in
    rw (written, ← at) (omega arith)

pub drop_cleared : (bytes : List ℕ) (count : ℕ) → drop count (cleared bytes count) ≡ drop count bytes
drop_cleared bytes count = drop_at _ (drop count bytes) count (length-replicate count 0)

-- one node is marked, and the others stay as they are
pub marked_mark : (bytes : List ℕ) (count v w : ℕ) → v < count → count ≤ length bytes → marked (set bytes v 1) count w ≡ (eqb w v || marked bytes count w)
marked_mark bytes count v w inside fits =
    ⊎_elim
    (λ e. let same = get_or-set_same bytes v 1 0 (omega arith) in rw e (grind (arith, nat_tests)))
    (λ ne. let other = get_or-set_other bytes v w 1 0 ne in grind (arith, nat_tests))
    (cases_eq w v)

-- cleared bytes hold no mark
pub marked_cleared : (bytes : List ℕ) (count v : ℕ) → marked (cleared bytes count) count v ≡ false
marked_cleared bytes count v =
    ⊎_elim
    (λ inside.
    let zero = get_or_append_left (replicate count 0) (drop count bytes) 0 v (rw length-replicate inside) ∙ get_or-replicate count v 0 0 inside in
    grind (arith, nat_tests))
    (λ past. grind (arith, nat_tests))
    (cases_lt v count)

all_blank : (n : ℕ) → count_by (λ b. eqb b 0) (replicate n 0) ≡ n
all_blank zero = refl
all_blank (suc n) = omega (arith, sum_by-cons (λ b. cond (eqb b 0) 1 0) 0 (replicate n 0), all_blank n)

pub blanks_cleared : (bytes : List ℕ) (count : ℕ) → blanks (cleared bytes count) count ≡ count
blanks_cleared bytes count = rw (take_at (replicate count 0) (drop count bytes) count (length-replicate count 0)) (all_blank count)
