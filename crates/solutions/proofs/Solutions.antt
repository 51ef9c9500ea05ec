-- The lawful numberings of a job are exactly its solutions.
use Rattle.std.proofs.Common.{◌≡◌, ℕ, ◌<◌, Bool, true, false, cond, not, ◌&&◌, eqb, List, length, sym, refl, ap, ◌∙◌, arith}
use Rattle.std.proofs.lemmas.List.FromFn.{length-map-range_with_len, get_or-map-range_with_len}
use Rattle.std.proofs.lemmas.Bool.Decides.{nat_tests}
use Rattle.network.specs.Sum.{count_upto}
use Rattle.flows.proofs.Sums.{upto_same}
use Rattle.series.specs.Job.{Job, part_count, sign_count, part_at}
use Rattle.series.specs.Limits.{Held}
use Rattle.series.specs.Numbering.{byte_at, unsigned, uses, signed, StandingKept, LawfulNumbering, PartRule}
use Rattle.series.specs.declared.records.Standing as standing
use Rattle.series.specs.declared.records.Standing.TheVariants.{LeftOut, Optional, Required}
use Rattle.solutions.specs.Solution.{Solution, Tells, SolutionsTold, set_of, sign_of, bytes_of}
use Rattle.solutions.proofs.Tests.{one}

-- counts by tests that agree on the parts
counts_same : (n : ℕ) (test other : ℕ → Bool) → ((p : ℕ) → p < n → test p ≡ other p) → count_upto n test ≡ count_upto n other
counts_same n test other h = upto_same n (λ p. one (test p)) (λ p. one (other p)) (λ p l. ap one (h p l))

-- the standing of a part is kept exactly where a required part is in the set and a left-out part is not
standing_tells : (s : standing.Standing) (b : ℕ) → StandingKept s b → (s ≡ Required → not (eqb b unsigned) ≡ true) × (s ≡ LeftOut → not (eqb b unsigned) ≡ false)
standing_tells LeftOut b h = (λ e. cc, λ e. grind (arith, nat_tests, h))
standing_tells Optional b h = (λ e. cc, λ e. cc)
standing_tells Required b h = (λ e. grind (arith, nat_tests, h), λ e. cc)

standing_kept : (s : standing.Standing) (b : ℕ) → (s ≡ Required → not (eqb b unsigned) ≡ true) → (s ≡ LeftOut → not (eqb b unsigned) ≡ false) → StandingKept s b
standing_kept LeftOut b required left_out = grind (arith, nat_tests, left_out refl)
standing_kept Optional b required left_out = tt
standing_kept Required b required left_out = λ e. grind (arith, nat_tests, required refl)

module _ (job : Job) (lo hi : ℕ) (held : Held job) where
  module _ (bytes : List ℕ) (long : length bytes ≡ part_count job) where
    uses_are : (s : ℕ) → s < sign_count job → count_upto (part_count job) (λ p. set_of bytes p && eqb (sign_of bytes p) s) ≡ uses bytes s
    uses_are s k =
        counts_same (part_count job) (λ p. set_of bytes p && eqb (sign_of bytes p) s) (λ p. eqb (byte_at bytes p) s) (λ p h. grind (arith, nat_tests, held.signs))
        ∙ ap (λ n. count_upto n (λ p. eqb (byte_at bytes p) s)) (sym long)

    signed_are : count_upto (part_count job) (set_of bytes) ≡ signed bytes
    signed_are = ap (λ n. count_upto n (set_of bytes)) (sym long)

  module _ (bytes : List ℕ) (law : LawfulNumbering job lo hi bytes) where
    known : (p : ℕ) → p < part_count job → set_of bytes p ≡ true → sign_of bytes p < sign_count job
    known p h e = grind (arith, nat_tests, (law.parts p h).known)

    pub solves : Solution job lo hi (set_of bytes) (sign_of bytes)
    solves = record {
      required = λ p h. (standing_tells (part_at job p).standing (byte_at bytes p) (law.parts p h).standing).0;
      left_out = λ p h. (standing_tells (part_at job p).standing (byte_at bytes p) (law.parts p h).standing).1;
      known = known;
      allowed = λ p h e. (law.parts p h).mask (known p h e);
      counts = λ s k. rw (uses_are bytes law.long s k) (record { low = (law.signs s k).0; high = (law.signs s k).1 });
      total = rw (signed_are bytes law.long) (record { low = law.total.0; high = law.total.1 });
    }

  module _ (bytes : List ℕ) (long : length bytes ≡ part_count job) (sol : Solution job lo hi (set_of bytes) (sign_of bytes)) where
    part_rule : (p : ℕ) → p < part_count job → PartRule job p (byte_at bytes p)
    part_rule p h = record {
      known = grind (arith, nat_tests, sol.known p h);
      standing = standing_kept (part_at job p).standing (byte_at bytes p) (sol.required p h) (sol.left_out p h);
      mask = λ k. sol.allowed p h (grind (arith, nat_tests, held.signs));
    }

    pub lawful_from : LawfulNumbering job lo hi bytes
    lawful_from = record {
      long = long;
      parts = part_rule;
      signs = λ s k. let count = rw (uses_are bytes long s k) at (sol.counts s k) in (count.low, count.high);
      total = let total = rw (signed_are bytes long) at sol.total in (total.low, total.high);
    }

  module _ (set : ℕ → Bool) (sign : ℕ → ℕ) (sol : Solution job lo hi set sign) where
    byte_is : (p : ℕ) → p < part_count job → byte_at (bytes_of job set sign) p ≡ cond (set p) (sign p) unsigned
    byte_is p h = get_or-map-range_with_len (λ q. cond (set q) (sign q) unsigned) 0 (part_count job) p p 0 h (omega arith)

    signs_are : (p : ℕ) → p < part_count job → set p ≡ true → sign_of (bytes_of job set sign) p ≡ sign p
    signs_are p h e = grind (arith, byte_is p h, e)

    sets_are : (p : ℕ) → p < part_count job → set_of (bytes_of job set sign) p ≡ set p
    sets_are p h = grind (arith, nat_tests, byte_is p h, sol.known p h, held.signs)

    pub tells : Tells job (bytes_of job set sign) set sign
    tells = record {
      long = length-map-range_with_len (λ q. cond (set q) (sign q) unsigned) 0 (part_count job);
      sets = sets_are;
      signs = signs_are;
    }

    -- a part has this sign in both
    both_have : (p s : ℕ) → p < part_count job → (set p && eqb (sign p) s) ≡ (set_of (bytes_of job set sign) p && eqb (sign_of (bytes_of job set sign) p) s)
    both_have p s h = grind (arith, nat_tests, sets_are p h, signs_are p h)

    retold : Solution job lo hi (set_of (bytes_of job set sign)) (sign_of (bytes_of job set sign))
    retold = record {
      required = λ p h e. sets_are p h ∙ sol.required p h e;
      left_out = λ p h e. sets_are p h ∙ sol.left_out p h e;
      known = λ p h e. let in_set : set p ≡ true = sym (sets_are p h) ∙ e in rw (signs_are p h in_set) (sol.known p h in_set);
      allowed = λ p h e. let in_set : set p ≡ true = sym (sets_are p h) ∙ e in rw (signs_are p h in_set) (sol.allowed p h in_set);
      counts = λ s k. rw (← counts_same (part_count job) (λ p. set p && eqb (sign p) s) (λ p. set_of (bytes_of job set sign) p && eqb (sign_of (bytes_of job set sign) p) s) (λ p h. both_have p s h)) (sol.counts s k);
      total = rw (counts_same (part_count job) (set_of (bytes_of job set sign)) set sets_are) sol.total;
    }

    pub told : LawfulNumbering job lo hi (bytes_of job set sign)
    told = lawful_from (bytes_of job set sign) tells.long retold

  pub solutions_told : SolutionsTold job lo hi
  solutions_told = record { solves = solves; lawful = lawful_from; tells = tells; told = told }
