-- Mending a flow: a search that is stuck leaves a bottleneck, and a flow with nothing to spare is lawful.
use Rattle.std.proofs.Common.{◌≡◌, ℕ, ◌+◌, ◌-◌, ◌<◌, Bool, true, cond, List, refl, ap, ◌∙◌, arith}
use Rattle.std.proofs.lemmas.Bool.{cond_both}
use Rattle.network.specs.Sum.{upto}
use Rattle.network.specs.Net.{Net, Limits, size, line, least, most}
use Rattle.network.specs.Flow.{at, over, into, from, entering, leaving, Bottleneck, Lawful}
use Rattle.flows.specs.Bounds.{Balanced, Mending, AllShut}
use Rattle.flows.proofs.Sums.{upto_same, upto_add, upto_zero, upto_part, upto_none}
use Rattle.flows.proofs.Cut.{sum_in, border, over_le}

sum_in_add : (g : Net) (R : ℕ → Bool) (a b : ℕ → ℕ) → sum_in g R (λ v. a v + b v) ≡ sum_in g R a + sum_in g R b
sum_in_add g R a b =
    upto_same g.nodes _ _ (λ v _. apart (R v) (a v) (b v)) ∙ upto_add g.nodes (λ v. cond (R v) (a v) 0) (λ v. cond (R v) (b v) 0)
  where
    apart : (t : Bool) (x y : ℕ) → cond t (x + y) 0 ≡ cond t x 0 + cond t y 0
    apart t x y = grind arith

-- what enters a set and what its nodes lack is what leaves it and what its nodes have to spare
pub spare_of_set : (g : Net) → Limits g → (f spare lack : ℕ → ℕ) → Balanced g f spare lack → (R : ℕ → Bool)
    → over g (entering R) f + sum_in g R lack ≡ over g (leaving R) f + sum_in g R spare
spare_of_set g lim f spare lack bal R =
    omega (
      arith,
      border g lim f R,
      sum_in_add g R (λ v. over g (into v) f) lack,
      sum_in_add g R (λ v. over g (from v) f) spare,
      upto_same g.nodes (λ v. cond (R v) (over g (into v) f + lack v) 0) (λ v. cond (R v) (over g (from v) f + spare v) 0)
          (λ v l. ap (λ x. cond (R v) x 0) (bal v l)),
    )

-- as much is lacking in all as there is to spare in all
pub lack_as_spare : (g : Net) → Limits g → (f spare lack : ℕ → ℕ) → Balanced g f spare lack
    → upto g.nodes lack ≡ upto g.nodes spare
lack_as_spare g lim f spare lack bal =
    omega (arith, spare_of_set g lim f spare lack bal (λ _. true), upto_zero (size g) (λ _. 0) (λ _ _. refl))

-- a set that is shut, in which nothing is lacking and something is to spare, is a bottleneck
pub stuck : (g : Net) → Limits g → (f spare lack : ℕ → ℕ) → Balanced g f spare lack → (R : ℕ → Bool) → AllShut g f R
    → ((v : ℕ) → v < g.nodes → R v ≡ true → lack v ≡ 0) → (v : ℕ) → v < g.nodes → R v ≡ true → 0 < spare v → Bottleneck g R
stuck g lim f spare lack bal R shut full v l e some =
    omega (
      arith,
      spare_of_set g lim f spare lack bal R,
      upto_zero g.nodes (λ w. cond (R w) (lack w) 0) (λ w m. cond_both (R w) (lack w) 0 (λ x. x ≡ 0) (full w m) (λ _. refl)),
      upto_part g.nodes v (λ w. cond (R w) (spare w) 0) l,
      ap (λ b. cond b (spare v) 0) e,
      over_le g (entering R) f (λ i. least (line g i)) (λ i m. (shut i m).back),
      over_le g (leaving R) (λ i. most (line g i)) f (λ i m. (shut i m).out),
    )

-- where nothing is to spare nothing is lacking, and the flow is lawful
pub mended : (g : Net) → Limits g → (f : List ℕ) (spare lack : ℕ → ℕ) → Mending g f spare lack
    → ((v : ℕ) → v < g.nodes → spare v ≡ 0) → Lawful g f
mended g lim f spare lack m none =
    record {
      long = m.long;
      low = m.bounds.low;
      high = m.bounds.high;
      kept = λ v l. omega (arith, m.balance v l, none v l, upto_none g.nodes v lack nothing l);
    }
  where
    nothing : upto g.nodes lack ≡ 0
    nothing = lack_as_spare g lim (at f) spare lack m.balance ∙ upto_zero g.nodes spare none

-- whatever the amounts, each node has to spare what enters beyond what leaves, and lacks what leaves beyond what enters
pub balanced_start : (g : Net) (f : ℕ → ℕ)
    → Balanced g f (λ v. over g (into v) f - over g (from v) f) (λ v. over g (from v) f - over g (into v) f)
balanced_start g f v l = omega arith
