-- Which blocks are of which kind, and what a good block of a kind is.
use Rattle.std.proofs.Common.{◌≡◌, ℕ, ◌<◌, ◌≤◌, eqb, ltb, List, sym, subst, arith}
use Rattle.std.proofs.lemmas.Bool.{cond_both, eqb-true, eqb-false, ltb-true, ltb-false}
use Rattle.std.proofs.lemmas.Bool.Decides.{nat_tests}
use Rattle.blocks.specs.Block.{Block, block_of, record_count}
use Rattle.layout.specs.Kinds.{kind_of}
use Rattle.layout.specs.Places.{signs_start, acts_start}
use Rattle.layout.specs.Form.{expected_of, FormOf, GoodBlock}
use Rattle.layout.specs.declared.kind.Kind.{Kind}
use Rattle.layout.specs.declared.kind.Kind.TheVariants.{Head, Parts, Signs, Acts}

-- the block b stands among those of a kind
abbrev pub StandsAmong : Kind → (n m b : ℕ) → Type 0
StandsAmong Head n m b = b ≡ 0
StandsAmong Parts n m b = (1 ≤ b) × (b < signs_start n)
StandsAmong Signs n m b = (signs_start n ≤ b) × (b < acts_start n m)
StandsAmong Acts n m b = acts_start n m ≤ b

pub kind_told : (n m b : ℕ) → StandsAmong (kind_of n m b) n m b
kind_told n m b =
    let Told : Kind → Type 0 = λ k. StandsAmong k n m b in
    cond_both (eqb b 0) _ _ Told (eqb-true b 0) (λ e.
    let some = eqb-false b 0 e in
    cond_both (ltb b (signs_start n)) _ _ Told (λ t. (omega arith, ltb-true b (signs_start n) t)) (λ f.
    cond_both (ltb b (acts_start n m)) _ _ Told (λ t. (ltb-false b (signs_start n) f, ltb-true b (acts_start n m) t)) (ltb-false b (acts_start n m))))

pub kind_is : (k : Kind) (n m b : ℕ) → StandsAmong k n m b → kind_of n m b ≡ k
kind_is Head n m b h = grind (arith, nat_tests)
kind_is Parts n m b h = grind (arith, nat_tests)
kind_is Signs n m b h = grind (arith, nat_tests)
kind_is Acts n m b h = grind (arith, nat_tests)

-- a good block of a kind
abbrev pub GoodAs : Kind → List ℕ → (n m b : ℕ) → Type 0
GoodAs k file n m b =
    Block (expected_of k n m b).kind b (expected_of k n m b).fewest (expected_of k n m b).utmost (block_of file b) × ((r : ℕ) → r < record_count (block_of file b) → FormOf k file n b r)

pub good_as : (k : Kind) (file : List ℕ) (n m b : ℕ) → StandsAmong k n m b → GoodBlock file n m b → GoodAs k file n m b
good_as k file n m b h good = subst (λ (x : Kind). GoodAs x file n m b) (kind_is k n m b h) (good.block, good.records)

pub good_from : (k : Kind) (file : List ℕ) (n m b : ℕ) → StandsAmong k n m b → GoodAs k file n m b → GoodBlock file n m b
good_from k file n m b h given =
    let good = subst (λ (x : Kind). GoodAs x file n m b) (sym (kind_is k n m b h)) given in
    record { block = good.0; records = good.1 }
