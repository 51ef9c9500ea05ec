-- The flow of a lawful numbering is lawful.
use Rattle.std.proofs.Common.{◌≡◌, ℕ, ◌+◌, ◌<◌, ◌≤◌, Bool, true, not, eqb, List, length, sym, ap, ◌∙◌, arith}
use Rattle.std.proofs.lemmas.List.FromFn.{length-map-range_with_len, get_or-map-range_with_len}
use Rattle.std.proofs.lemmas.Bool.Decides.{nat_tests}
use Rattle.network.specs.Net.{Net, Line, line, least, most}
use Rattle.network.specs.Flow.{at, Lawful}
use Rattle.network.specs.Sum.{upto, count_upto}
use Rattle.network.specs.declared.role.Role.{Role}
use Rattle.network.specs.declared.role.Role.TheVariants.{Standing, Pair, Count, Other}
use Rattle.flows.proofs.Sums.{upto_same, upto_swap}
use Rattle.series.specs.Job.{Job, part_count, sign_count, part_at, allows, fewest, utmost, signs_from, line_count, whole_net}
use Rattle.series.specs.Key.{pair_place, role_at}
use Rattle.series.specs.Limits.{Held}
use Rattle.series.specs.Numbering.{byte_at, unsigned, uses, signed, StandingKept, LawfulNumbering}
use Rattle.series.specs.declared.records.Standing as standing
use Rattle.series.specs.declared.records.Standing.TheVariants.{LeftOut, Optional, Required}
use Rattle.solutions.specs.Carried.{carried, flow_of}
use Rattle.solutions.specs.Solution.{set_of}
use Rattle.solutions.proofs.Regions.{each_place, pair_inside}
use Rattle.solutions.proofs.Lines.{size_whole, line_part, line_pair, line_sign, line_last, role_part, role_pair, role_sign, role_last}
use Rattle.solutions.proofs.Balance.{Balanced, kept_everywhere}
use Rattle.solutions.proofs.Choice.{byte_sum}
use Rattle.solutions.proofs.Tests.{one, one_le}

-- what the flow of any bytes carries, by region
module _ (job : Job) (bytes : List ℕ) where
  pub amount : (k : ℕ) (r : Role) → k < line_count job + 1 → role_at job k ≡ r → at (flow_of job bytes) k ≡ carried bytes r
  amount k r h e =
      get_or-map-range_with_len (λ i. carried bytes (role_at job i)) 0 (line_count job + 1) k k 0 h (omega arith) ∙ ap (carried bytes) e

  pub carries_part : (p : ℕ) → p < part_count job → at (flow_of job bytes) p ≡ one (set_of bytes p)
  carries_part p h = amount p (Standing p) (omega arith) (role_part job p h)

  pub carries_pair : (p s : ℕ) → p < part_count job → s < sign_count job → at (flow_of job bytes) (pair_place job p s) ≡ one (eqb (byte_at bytes p) s)
  carries_pair p s h k =
      amount (pair_place job p s) (Pair p s) (omega (arith, pair_inside job p s h k)) (role_pair job p s h k)

  pub carries_sign : (s : ℕ) → s < sign_count job → at (flow_of job bytes) (signs_from job + s) ≡ uses bytes s
  carries_sign s h = amount (signs_from job + s) (Count s) (omega arith) (role_sign job s h)

  pub carries_last : at (flow_of job bytes) (line_count job) ≡ signed bytes
  carries_last = amount (line_count job) Other (omega arith) (role_last job)

-- bounds of a part by its standing, and of a pair by the mask
standing_bounds : (s : standing.Standing) (b : ℕ) → StandingKept s b → (fewest s ≤ one (not (eqb b unsigned))) × (one (not (eqb b unsigned)) ≤ utmost s)
standing_bounds LeftOut b h = (omega arith, grind (arith, nat_tests, h))
standing_bounds Optional b h = (omega arith, one_le (not (eqb b unsigned)))
standing_bounds Required b h = (grind (arith, nat_tests, h), one_le (not (eqb b unsigned)))

mask_bound : (mask b s : ℕ) → (b ≡ s → allows mask s ≡ true) → one (eqb b s) ≤ one (allows mask s)
mask_bound mask b s h = grind (arith, nat_tests, h)

-- a line's bounds hold of an amount
pub record Holds (l : Line) (x : ℕ) : Type 0 where
  pub low : least l ≤ x
  pub high : x ≤ most l

pub holds_of : (l m : Line) (x y : ℕ) → l ≡ m → x ≡ y → Holds m y → Holds l x
holds_of l m x y e d h = rw (e, d) h

module _ (job : Job) (lo hi : ℕ) (held : Held job) (bytes : List ℕ) (lawful : LawfulNumbering job lo hi bytes) where
  -- a count of bytes, over the parts
  counted : (test : ℕ → Bool) → count_upto (length bytes) test ≡ upto (part_count job) (λ p. one (test p))
  counted test = ap (λ n. upto n (λ p. one (test p))) lawful.long

  -- each part's own sum
  part_sum : (p : ℕ) → p < part_count job → upto (sign_count job) (λ s. one (eqb (byte_at bytes p) s)) ≡ one (set_of bytes p)
  part_sum p h = byte_sum (sign_count job) held.signs (byte_at bytes p) (lawful.parts p h).known

  balanced : Balanced job (at (flow_of job bytes))
  balanced = record {
    source =
        carries_last job bytes ∙ counted (set_of bytes)
        ∙ sym (upto_same (part_count job) (at (flow_of job bytes)) (λ p. one (set_of bytes p)) (λ p h. carries_part job bytes p h));
    part = λ p h.
        carries_part job bytes p h ∙ sym (part_sum p h)
        ∙ sym (upto_same (sign_count job) (λ s. at (flow_of job bytes) (pair_place job p s)) (λ s. one (eqb (byte_at bytes p) s)) (λ s k. carries_pair job bytes p s h k));
    sign = λ s k.
        upto_same (part_count job) (λ p. at (flow_of job bytes) (pair_place job p s)) (λ p. one (eqb (byte_at bytes p) s)) (λ p h. carries_pair job bytes p s h k)
        ∙ sym (counted (λ p. eqb (byte_at bytes p) s))
        ∙ sym (carries_sign job bytes s k);
    sink =
        upto_same (sign_count job) (λ s. at (flow_of job bytes) (signs_from job + s)) (λ s. upto (part_count job) (λ p. one (eqb (byte_at bytes p) s))) (λ s k. carries_sign job bytes s k ∙ counted (λ p. eqb (byte_at bytes p) s))
        ∙ upto_swap (sign_count job) (part_count job) (λ s p. one (eqb (byte_at bytes p) s))
        ∙ upto_same (part_count job) (λ p. upto (sign_count job) (λ s. one (eqb (byte_at bytes p) s))) (λ p. one (set_of bytes p)) part_sum
        ∙ sym (carries_last job bytes ∙ counted (set_of bytes));
  }

  abbrev g : Net
  g = whole_net job lo hi

  bounds : (k : ℕ) → k < line_count job + 1 → Holds (line g k) (at (flow_of job bytes) k)
  bounds =
      each_place job (λ k. Holds (line g k) (at (flow_of job bytes) k))
      (λ p h. let b = standing_bounds (part_at job p).standing (byte_at bytes p) (lawful.parts p h).standing in rw (line_part job lo hi p h, carries_part job bytes p h) (record { low = b.0; high = b.1 }))
      (λ p s h k. rw (line_pair job lo hi p s h k, carries_pair job bytes p s h k) (record { low = omega arith; high = mask_bound (part_at job p).mask (byte_at bytes p) s (λ e. rw e at ((lawful.parts p h).mask (omega arith))) }))
      (λ s k. rw (line_sign job lo hi s k, carries_sign job bytes s k) (record { low = (lawful.signs s k).0; high = (lawful.signs s k).1 }))
      (rw (line_last job lo hi, carries_last job bytes) (record { low = lawful.total.0; high = lawful.total.1 }))

  pub flow_lawful : Lawful (whole_net job lo hi) (flow_of job bytes)
  flow_lawful = record {
    long = length-map-range_with_len (λ k. carried bytes (role_at job k)) 0 (line_count job + 1) ∙ sym (size_whole job lo hi);
    low = λ k h. (bounds k (omega (arith, size_whole job lo hi))).low;
    high = λ k h. (bounds k (omega (arith, size_whole job lo hi))).high;
    kept = kept_everywhere job lo hi (at (flow_of job bytes)) balanced;
  }
