-- Lawful flows: what enters a set leaves it, a bottleneck excludes them, and closed sets hold them to an amount.
use Rattle.std.proofs.Common.{◌≡◌, ℕ, ◌+◌, ◌<◌, ◌≤◌, Bool, true, false, not, ◌&&◌, List, sym, ap, ◌∙◌, subst, arith}
use Rattle.std.proofs.lemmas.Bool.{and_from, and_parts, not-true, both_ways}
use Rattle.network.specs.Net.{Net, Limits, size, line, tail, head, least, most}
use Rattle.network.specs.Flow.{at, over, entering, leaving, Bottleneck, Lawful, Fixed, Free}
use Rattle.flows.specs.Bounds.{Within, Closed, AtMost, AtLeast}
use Rattle.flows.proofs.Cut.{over_le, over_but}
use Rattle.flows.proofs.Mend.{spare_of_set}

pub lawful_within : (g : Net) (f : List ℕ) → Lawful g f → Within g (at f)
lawful_within g f law = record { low = law.low; high = law.high }

-- what enters any set of nodes leaves it
pub cut : (g : Net) → Limits g → (f : List ℕ) → Lawful g f → (R : ℕ → Bool)
    → over g (entering R) (at f) ≡ over g (leaving R) (at f)
cut g lim f law R =
    omega (arith, spare_of_set g lim (at f) (λ _. 0) (λ _. 0) (λ v l. ap (λ x. x + 0) (law.kept v l)) R)

-- a set that must take in more than can leave it excludes every lawful flow
pub bottleneck_excludes : (g : Net) → Limits g → (R : ℕ → Bool) → Bottleneck g R → (f : List ℕ) → Lawful g f → ⊥
bottleneck_excludes g lim R b f law =
    omega (
      arith,
      cut g lim f law R,
      over_le g (entering R) (λ i. least (line g i)) (at f) (λ i l _. law.low i l),
      over_le g (leaving R) (at f) (λ i. most (line g i)) (λ i l _. law.high i l),
    )

-- no line both enters and leaves a set
one_way : (a b : Bool) → (a && not b) ≡ true → (b && not a) ≡ true → ⊥
one_way a b p q = both_ways b (not-true b (and_parts a (not b) p).1) (and_parts b (not a) q).0

module _ (g : Net) (lim : Limits g) (f : List ℕ) (law : Lawful g f) (R : ℕ → Bool) (l : ℕ) (fits : l < size g) (closed : Closed g (at f) R l)
  where
    -- a line that enters a closed set carries no more in any lawful flow
    pub top : R (head (line g l)) ≡ true → R (tail (line g l)) ≡ false → AtMost g l (at f l)
    top hd tl h other =
        omega (
          arith,
          cut g lim f law R,
          cut g lim h other R,
          over_but g (entering R) (at f) (at h) l fits enters (λ i m n k. omega (arith, (closed i m n).back k, other.low i m)),
          over_le g (leaving R) (at h) (at f)
              (λ i m k. omega (
                arith,
                (closed i m
                    (λ e. one_way (R (head (line g l))) (R (tail (line g l))) enters (subst (λ j. leaving R (line g j) ≡ true) e k))).out k,
                other.high i m,
              )),
        )
      where
        enters : entering R (line g l) ≡ true
        enters = and_from (R (head (line g l))) (not (R (tail (line g l)))) hd (ap not tl)

    -- a line that leaves a closed set carries no less
    pub floor : R (tail (line g l)) ≡ true → R (head (line g l)) ≡ false → AtLeast g l (at f l)
    floor tl hd h other =
        omega (
          arith,
          cut g lim f law R,
          cut g lim h other R,
          over_but g (leaving R) (at h) (at f) l fits leaves (λ i m n k. omega (arith, (closed i m n).out k, other.high i m)),
          over_le g (entering R) (at f) (at h)
              (λ i m k. omega (
                arith,
                (closed i m
                    (λ e. one_way (R (tail (line g l))) (R (head (line g l))) leaves (subst (λ j. entering R (line g j) ≡ true) e k))).back k,
                other.low i m,
              )),
        )
      where
        leaves : leaving R (line g l) ≡ true
        leaves = and_from (R (tail (line g l))) (not (R (head (line g l)))) tl (ap not hd)

-- a line at its most carries no more, and one at its least no less
pub full : (g : Net) (l x : ℕ) → l < size g → most (line g l) ≤ x → AtMost g l x
full g l x m h f law = omega (arith, law.high l m)

pub bare : (g : Net) (l x : ℕ) → l < size g → x ≤ least (line g l) → AtLeast g l x
bare g l x m h f law = omega (arith, law.low l m)

pub fixed_between : (g : Net) (l x : ℕ) → AtMost g l x → AtLeast g l x → Fixed g l x
fixed_between g l x above below f law = omega (arith, above f law, below f law)

-- no line is both fixed at an amount and free from it
pub exclusive : (g : Net) (l x : ℕ) → Fixed g l x → Free g l x → ⊥
exclusive g l x fixed free = free.1.1 (fixed free.0 free.1.0)

-- a line is fixed at one amount only, where there is a lawful flow
pub fixed_once : (g : Net) (l x y : ℕ) (f : List ℕ) → Lawful g f → Fixed g l x → Fixed g l y → x ≡ y
fixed_once g l x y f law p q = sym (p f law) ∙ q f law
