-- The numbering of a lawful flow is lawful, and its flow is that flow again; the numbering of a numbering's flow is that numbering.
use Rattle.std.proofs.Common.{◌≡◌, ℕ, ◌+◌, ◌<◌, ◌≤◌, Bool, true, not, eqb, ltb, List, length, sym, ap, ◌∙◌, subst, arith}
use Rattle.std.proofs.lemmas.List.FromFn.{length-map-range_with_len, get_or-map-range_with_len}
use Rattle.std.proofs.lemmas.List.{ext_get_or}
use Rattle.std.proofs.lemmas.Bool.Decides.{nat_tests}
use Rattle.network.specs.Net.{Net, Line, size, line}
use Rattle.network.specs.Flow.{at, Lawful}
use Rattle.network.specs.Sum.{upto, count_upto}
use Rattle.flows.proofs.Sums.{upto_same}
use Rattle.series.specs.Job.{Job, part_count, sign_count, part_at, allows, fewest, utmost, signs_from, line_count, standing_line, pair_line, count_line, total_line, whole_net}
use Rattle.series.specs.Key.{pair_place, role_at, key_of}
use Rattle.series.specs.Limits.{Held}
use Rattle.series.specs.Numbering.{byte_at, unsigned, uses, signed, StandingKept, LawfulNumbering, PartRule}
use Rattle.series.specs.declared.records.Standing as standing
use Rattle.series.specs.declared.records.Standing.TheVariants.{LeftOut, Optional, Required}
use Rattle.solutions.specs.Carried.{carried, flow_of, over_line, byte_of, numbering_of}
use Rattle.solutions.specs.Solution.{set_of}
use Rattle.solutions.proofs.Regions.{each_place, pair_inside}
use Rattle.solutions.proofs.Lines.{size_whole, line_part, line_pair, line_sign, line_last}
use Rattle.solutions.proofs.Balance.{Balanced, balanced}
use Rattle.solutions.proofs.Choice.{Chosen, lowest_chosen, byte_sum, same_byte}
use Rattle.solutions.proofs.Tests.{one, one_le}
use Rattle.solutions.proofs.ToFlow.{Holds, carries_part, carries_pair, carries_sign, carries_last}

-- what bounds on the amount that enters a part say of its byte
standing_kept : (s : standing.Standing) (b x : ℕ) → one (not (eqb b unsigned)) ≡ x → fewest s ≤ x → x ≤ utmost s → StandingKept s b
standing_kept LeftOut b x e low high = grind (arith, nat_tests)
standing_kept Optional b x e low high = tt
standing_kept Required b x e low high = λ is. grind (arith, nat_tests)

utmost_one : (s : standing.Standing) → utmost s ≤ 1
utmost_one LeftOut = omega arith
utmost_one Optional = omega arith
utmost_one Required = omega arith

module _ (job : Job) (held : Held job) (f : List ℕ) where
  length_bytes : length (numbering_of (key_of job) f) ≡ part_count job
  length_bytes = length-map-range_with_len (byte_of (key_of job) f) 0 (part_count job)

  byte_is : (p : ℕ) → p < part_count job → byte_at (numbering_of (key_of job) f) p ≡ byte_of (key_of job) f p
  byte_is p h = get_or-map-range_with_len (byte_of (key_of job) f) 0 (part_count job) p p 0 h (omega arith)

  -- a pair of the job has its line
  pair_over : (p s : ℕ) → p < part_count job → s < sign_count job → over_line f ((key_of job).pair_line p s) ≡ at f (pair_place job p s)
  pair_over p s h k = grind (arith, nat_tests)

  -- the byte of a part says what its pairs carry, where they carry 1 in all at most
  pub byte_chosen : (p : ℕ) → p < part_count job → upto (sign_count job) (λ s. at f (pair_place job p s)) ≤ 1 → Chosen (sign_count job) (λ s. at f (pair_place job p s)) (byte_at (numbering_of (key_of job) f) p)
  byte_chosen p h small =
      rw (byte_is p h) (lowest_chosen (sign_count job) held.signs (λ s. at f (pair_place job p s)) small (λ s. ltb 0 (over_line f ((key_of job).pair_line p s))) (λ s k. ap (ltb 0) (pair_over p s h k)))

  -- a count of bytes, over the parts
  counted : (test : ℕ → Bool) → count_upto (length (numbering_of (key_of job) f)) test ≡ upto (part_count job) (λ p. one (test p))
  counted test = ap (λ n. upto n (λ p. one (test p))) length_bytes

  module _ (lo hi : ℕ) (lawful : Lawful (whole_net job lo hi) f) where
    abbrev g : Net
    g = whole_net job lo hi

    bal : Balanced job (at f)
    bal = balanced job lo hi (at f) lawful.kept

    -- the bounds of a line, at a place where it is known
    holds : (k : ℕ) (l : Line) → k < line_count job + 1 → line g k ≡ l → Holds l (at f k)
    holds k l h e =
        let inside : k < size g = omega (arith, size_whole job lo hi) in
        subst (λ x. Holds x (at f k)) e (record { low = lawful.low k inside; high = lawful.high k inside })

    part_holds : (p : ℕ) → p < part_count job → Holds (standing_line job p) (at f p)
    part_holds p h = holds p (standing_line job p) (omega arith) (line_part job lo hi p h)

    pair_holds : (p s : ℕ) → p < part_count job → s < sign_count job → Holds (pair_line job p s) (at f (pair_place job p s))
    pair_holds p s h k =
        holds (pair_place job p s) (pair_line job p s) (omega (arith, pair_inside job p s h k)) (line_pair job lo hi p s h k)

    sign_holds : (s : ℕ) → s < sign_count job → Holds (count_line job s) (at f (signs_from job + s))
    sign_holds s k = holds (signs_from job + s) (count_line job s) (omega arith) (line_sign job lo hi s k)

    last_holds : Holds (total_line job lo hi) (at f (line_count job))
    last_holds = holds (line_count job) (total_line job lo hi) (omega arith) (line_last job lo hi)

    chosen : (p : ℕ) → p < part_count job → Chosen (sign_count job) (λ s. at f (pair_place job p s)) (byte_at (numbering_of (key_of job) f) p)
    chosen p h =
        byte_chosen p h (omega (arith, bal.part p h, (part_holds p h).high, utmost_one (part_at job p).standing))

    -- what the numbering's own flow carries, by region
    part_same : (p : ℕ) → p < part_count job → one (set_of (numbering_of (key_of job) f) p) ≡ at f p
    part_same p h = (chosen p h).signs ∙ sym (bal.part p h)

    uses_same : (s : ℕ) → s < sign_count job → uses (numbering_of (key_of job) f) s ≡ at f (signs_from job + s)
    uses_same s k =
        counted (λ p. eqb (byte_at (numbering_of (key_of job) f) p) s)
        ∙ upto_same (part_count job) (λ p. one (eqb (byte_at (numbering_of (key_of job) f) p) s)) (λ p. at f (pair_place job p s)) (λ p h. (chosen p h).carries s k)
        ∙ bal.sign s k

    signed_same : signed (numbering_of (key_of job) f) ≡ at f (line_count job)
    signed_same =
        counted (set_of (numbering_of (key_of job) f))
        ∙ upto_same (part_count job) (λ p. one (set_of (numbering_of (key_of job) f) p)) (at f) part_same
        ∙ sym bal.source

    place_same : (k : ℕ) → k < line_count job + 1 → at (flow_of job (numbering_of (key_of job) f)) k ≡ at f k
    place_same =
        each_place job (λ k. at (flow_of job (numbering_of (key_of job) f)) k ≡ at f k)
        (λ p h. carries_part job (numbering_of (key_of job) f) p h ∙ part_same p h)
        (λ p s h k. carries_pair job (numbering_of (key_of job) f) p s h k ∙ (chosen p h).carries s k)
        (λ s k. carries_sign job (numbering_of (key_of job) f) s k ∙ uses_same s k)
        (carries_last job (numbering_of (key_of job) f) ∙ signed_same)

    length_flow : length (flow_of job (numbering_of (key_of job) f)) ≡ line_count job + 1
    length_flow = length-map-range_with_len (λ k. carried (numbering_of (key_of job) f) (role_at job k)) 0 (line_count job + 1)

    pub flow_back : flow_of job (numbering_of (key_of job) f) ≡ f
    flow_back =
        ext_get_or 0 (flow_of job (numbering_of (key_of job) f)) f (length_flow ∙ sym (lawful.long ∙ size_whole job lo hi)) (λ k h. place_same k (omega (arith, length_flow)))

    -- a sign that a part has is in its mask, since the pair carries 1
    in_mask : (p : ℕ) → p < part_count job → (k : byte_at (numbering_of (key_of job) f) p < sign_count job) → allows (part_at job p).mask (byte_at (numbering_of (key_of job) f) p) ≡ true
    in_mask p h k =
        let b = byte_at (numbering_of (key_of job) f) p in
        grind (arith, nat_tests, (chosen p h).carries b k, (pair_holds p b h k).high)

    part_rule : (p : ℕ) → p < part_count job → PartRule job p (byte_at (numbering_of (key_of job) f) p)
    part_rule p h = record {
      known = (chosen p h).known;
      standing = standing_kept (part_at job p).standing (byte_at (numbering_of (key_of job) f) p) (at f p) (part_same p h) (part_holds p h).low (part_holds p h).high;
      mask = in_mask p h;
    }

    pub numbering_lawful : LawfulNumbering job lo hi (numbering_of (key_of job) f)
    numbering_lawful = record {
      long = length_bytes;
      parts = part_rule;
      signs = λ s k. (omega (arith, uses_same s k, (sign_holds s k).low), omega (arith, uses_same s k, (sign_holds s k).high));
      total = (omega (arith, signed_same, last_holds.low), omega (arith, signed_same, last_holds.high));
    }

module _ (job : Job) (held : Held job) (lo hi : ℕ) (bytes : List ℕ) (lawful : LawfulNumbering job lo hi bytes) where
  pairs_are : (p : ℕ) → p < part_count job → upto (sign_count job) (λ s. at (flow_of job bytes) (pair_place job p s)) ≡ one (set_of bytes p)
  pairs_are p h =
      upto_same (sign_count job) (λ s. at (flow_of job bytes) (pair_place job p s)) (λ s. one (eqb (byte_at bytes p) s)) (λ s k. carries_pair job bytes p s h k)
      ∙ byte_sum (sign_count job) held.signs (byte_at bytes p) (lawful.parts p h).known

  byte_back : (p : ℕ) → p < part_count job → byte_at (numbering_of (key_of job) (flow_of job bytes)) p ≡ byte_at bytes p
  byte_back p h =
      same_byte (sign_count job) held.signs (λ s. at (flow_of job bytes) (pair_place job p s)) (byte_at (numbering_of (key_of job) (flow_of job bytes)) p) (byte_at bytes p) (byte_chosen job held (flow_of job bytes) p h (omega (arith, pairs_are p h, one_le (set_of bytes p)))) (lawful.parts p h).known (λ s k. sym (carries_pair job bytes p s h k)) (sym (pairs_are p h))

  pub numbering_back : numbering_of (key_of job) (flow_of job bytes) ≡ bytes
  numbering_back =
      let same = length-map-range_with_len (byte_of (key_of job) (flow_of job bytes)) 0 (part_count job) in
      ext_get_or 0 (numbering_of (key_of job) (flow_of job bytes)) bytes (same ∙ sym lawful.long) (λ p h. byte_back p (omega arith))
