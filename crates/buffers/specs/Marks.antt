-- What mark bytes say: a node is marked where its byte is not 0.
use Rattle.std.specs.Prelude.{ℕ, Bool, not, ◌&&◌, List, ◌++◌, take, drop, replicate, count_by, ◌==◌, nat_eq, nat_lt, slice_index}

-- whether node v is among the first `count`, and marked; or among them, and blank
abbrev pub marked : List ℕ → ℕ → ℕ → Bool
marked bytes count v = nat_lt v count && not (slice_index bytes v == 0)

abbrev pub blank : List ℕ → ℕ → ℕ → Bool
blank bytes count v = nat_lt v count && slice_index bytes v == 0

-- how many of the first `count` are blank
abbrev pub blanks : List ℕ → ℕ → ℕ
blanks bytes count = count_by (λ b. nat_eq b 0) (take count bytes)

-- the bytes with the first `count` blank, and the others as they are
abbrev pub cleared : List ℕ → ℕ → List ℕ
cleared bytes count = replicate count 0 ++ drop count bytes
