-- What enters and leaves each node of the network of a whole job, and when a flow keeps it.
use Rattle.std.proofs.Common.{◌≡◌, ℕ, ◌+◌, ◌-◌, ◌*◌, ◌<◌, Bool, cond, ◌&&◌, eqb, ltb, leb, ap, ◌∙◌, arith}
use Rattle.std.proofs.lemmas.Bool.Decides.{nat_tests}
use Rattle.network.specs.Net.{Net, Line, line}
use Rattle.network.specs.Flow.{over, into, from, Kept}
use Rattle.network.specs.Sum.{upto}
use Rattle.network.proofs.Counting.{upto_more}
use Rattle.flows.proofs.Sums.{upto_same}
use Rattle.series.specs.Job.{Job, part_count, sign_count, signs_from, line_count, standing_line, pair_line, count_line, total_line, whole_net, part_node, sign_node, sink_node}
use Rattle.series.specs.Key.{pair_place}
use Rattle.solutions.proofs.Sums.{upto_append, upto_rows, picks_place, picks_flat}
use Rattle.solutions.proofs.Lines.{size_whole, line_part, line_pair, line_sign, line_last}

-- What leaves the source comes back over the last line; what enters a part leaves it to its signs; what enters a sign is its
-- count; the counts add up to what the last line carries.
pub record Balanced (job : Job) (f : ℕ → ℕ) : Type 0 where
  pub source : f (line_count job) ≡ upto (part_count job) f
  pub part : (p : ℕ) → p < part_count job → f p ≡ upto (sign_count job) (λ s. f (pair_place job p s))
  pub sign : (s : ℕ) → s < sign_count job → upto (part_count job) (λ p. f (pair_place job p s)) ≡ f (signs_from job + s)
  pub sink : upto (sign_count job) (λ s. f (signs_from job + s)) ≡ f (line_count job)

module _ (job : Job) (lo hi : ℕ) (f : ℕ → ℕ) where
  module _ (test : Line → Bool) where
    -- the sums over the four regions
    abbrev parts_sum : ℕ
    parts_sum = upto (part_count job) (λ p. cond (test (standing_line job p)) (f p) 0)

    abbrev pairs_sum : ℕ
    pairs_sum =
        upto (part_count job) (λ p. upto (sign_count job) (λ s. cond (test (pair_line job p s)) (f (pair_place job p s)) 0))

    abbrev signs_sum : ℕ
    signs_sum = upto (sign_count job) (λ s. cond (test (count_line job s)) (f (signs_from job + s)) 0)

    abbrev last_sum : ℕ
    last_sum = cond (test (total_line job lo hi)) (f (line_count job)) 0

    -- what one place adds
    abbrev term : ℕ → ℕ
    term i = cond (test (line (whole_net job lo hi) i)) (f i) 0

    term_of : (k : ℕ) (l : Line) → line (whole_net job lo hi) k ≡ l → term k ≡ cond (test l) (f k) 0
    term_of k l e = ap (λ x. cond (test x) (f k) 0) e

    parts_are : upto (part_count job) term ≡ parts_sum
    parts_are =
        upto_same (part_count job) term (λ p. cond (test (standing_line job p)) (f p) 0) (λ p h. term_of p (standing_line job p) (line_part job lo hi p h))

    pair_is : (p s : ℕ) → p < part_count job → s < sign_count job → term (part_count job + (p * sign_count job + s)) ≡ cond (test (pair_line job p s)) (f (pair_place job p s)) 0
    pair_is p s h k =
        let here : part_count job + (p * sign_count job + s) ≡ pair_place job p s = omega arith in
        ap term here ∙ term_of (pair_place job p s) (pair_line job p s) (line_pair job lo hi p s h k)

    pairs_are : upto (part_count job * sign_count job) (λ i. term (part_count job + i)) ≡ pairs_sum
    pairs_are =
        upto_rows (part_count job) (sign_count job) (λ i. term (part_count job + i))
        ∙ upto_same (part_count job) _ _ (λ p h. upto_same (sign_count job) (λ s. term (part_count job + (p * sign_count job + s))) (λ s. cond (test (pair_line job p s)) (f (pair_place job p s)) 0) (λ s k. pair_is p s h k))

    signs_are : upto (sign_count job) (λ i. term (signs_from job + i)) ≡ signs_sum
    signs_are =
        upto_same (sign_count job) (λ i. term (signs_from job + i)) (λ s. cond (test (count_line job s)) (f (signs_from job + s)) 0) (λ s h. term_of (signs_from job + s) (count_line job s) (line_sign job lo hi s h))

    pub split : over (whole_net job lo hi) test f ≡ (parts_sum + pairs_sum) + (signs_sum + last_sum)
    split =
        omega (
          arith,
          ap (λ k. upto k term) (size_whole job lo hi),
          upto_more (line_count job) term,
          upto_append (signs_from job) (sign_count job) term,
          upto_append (part_count job) (part_count job * sign_count job) term,
          parts_are,
          pairs_are,
          signs_are,
          term_of (line_count job) (total_line job lo hi) (line_last job lo hi),
        )

  -- what the pairs of a part, and of a sign, carry in all
  abbrev row : ℕ → ℕ
  row p = upto (sign_count job) (λ s. f (pair_place job p s))

  abbrev column : ℕ → ℕ
  column s = upto (part_count job) (λ p. f (pair_place job p s))

  -- the pairs into a node, and out of one
  pairs_into : (v : ℕ) → pairs_sum (into v) ≡ cond (leb (1 + part_count job) v && ltb v (sink_node job)) (column (v - (1 + part_count job))) 0
  pairs_into v =
      upto_same (part_count job) _ _ (λ p h. picks_place (sign_count job) (λ s. f (pair_place job p s)) (1 + part_count job) v)
      ∙ picks_flat (part_count job) (λ p. f (pair_place job p (v - (1 + part_count job)))) _

  pairs_from_node : (v : ℕ) → pairs_sum (from v) ≡ cond (leb 1 v && ltb v (1 + part_count job)) (row (v - 1)) 0
  pairs_from_node v =
      upto_same (part_count job) _ _ (λ p h. picks_flat (sign_count job) (λ s. f (pair_place job p s)) (eqb (part_node p) v))
      ∙ picks_place (part_count job) row 1 v

  abbrev g : Net
  g = whole_net job lo hi

  -- a node is the source, a part, a sign or the sink
  entering : (v : ℕ) → over g (into v) f ≡ (cond (leb 1 v && ltb v (1 + part_count job)) (f (v - 1)) 0 + cond (leb (1 + part_count job) v && ltb v (sink_node job)) (column (v - (1 + part_count job))) 0) + (cond (eqb (sink_node job) v) (upto (sign_count job) (λ s. f (signs_from job + s))) 0 + cond (eqb 0 v) (f (line_count job)) 0)
  entering v =
      omega (
        arith,
        split (into v),
        picks_place (part_count job) f 1 v,
        pairs_into v,
        picks_flat (sign_count job) (λ s. f (signs_from job + s)) (eqb (sink_node job) v),
      )

  leaving : (v : ℕ) → over g (from v) f ≡ (cond (eqb 0 v) (upto (part_count job) f) 0 + cond (leb 1 v && ltb v (1 + part_count job)) (row (v - 1)) 0) + (cond (leb (1 + part_count job) v && ltb v (sink_node job)) (f (signs_from job + (v - (1 + part_count job)))) 0 + cond (eqb (sink_node job) v) (f (line_count job)) 0)
  leaving v =
      omega (
        arith,
        split (from v),
        picks_flat (part_count job) f (eqb 0 v),
        pairs_from_node v,
        picks_place (sign_count job) (λ s. f (signs_from job + s)) (1 + part_count job) v,
      )

  -- kept at every node, in the words of the job
  pub balanced : ((v : ℕ) → v < g.nodes → Kept g f v) → Balanced job f
  balanced kept = record {
    source = grind (arith, nat_tests, kept 0, entering 0, leaving 0);
    part = λ p h. grind (arith, nat_tests, kept (part_node p), entering (part_node p), leaving (part_node p));
    sign = λ s h. grind (arith, nat_tests, kept (sign_node job s), entering (sign_node job s), leaving (sign_node job s));
    sink = grind (arith, nat_tests, kept (sink_node job), entering (sink_node job), leaving (sink_node job));
  }

  -- and the reverse
  pub kept_everywhere : Balanced job f → (v : ℕ) → v < g.nodes → Kept g f v
  kept_everywhere b v h =
      grind (arith, nat_tests, b.source, b.part (v - 1), b.sign (v - (1 + part_count job)), b.sink, entering v, leaving v)
