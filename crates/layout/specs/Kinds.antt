-- The kinds of blocks: the byte that each begins with, and which block of a file of n parts and m signs is of which.
use Rattle.std.specs.Prelude.{ℕ, if◌then◌else◌, ◌==◌, nat_lt}
use Rattle.layout.specs.Places.{signs_start, acts_start}
use Rattle.layout.specs.declared.kind.Kind.{Kind}
use Rattle.layout.specs.declared.kind.Kind.TheVariants.{Head, Parts, Signs, Acts}

-- J, P, S or A
abbrev pub letter_of : Kind → ℕ
letter_of Head = 74
letter_of Parts = 80
letter_of Signs = 83
letter_of Acts = 65

-- the kind of the block b
abbrev pub kind_of : (n m b : ℕ) → Kind
kind_of n m b = if b == 0 then Head else (if nat_lt b (signs_start n) then Parts else (if nat_lt b (acts_start n m) then Signs else Acts))
