-- The network of a one-series job keeps the limits of a network: this is shown here, for every value of the type.
use Rattle.std.specs.Prelude.{ℕ, zero, suc, ◌+◌, ◌-◌, ◌*◌, ◌/◌, ◌%◌, ◌<◌, ◌≤◌}
use Rattle.std.proofs.Common.{arith, mul-zero}
use Rattle.std.proofs.lemmas.Nat.{mul-le, div_below, mod_below}
use Rattle.std.proofs.lemmas.List.FromFn.{length-map-range_with_len, get_or-map-range_with_len}
use Rattle.std.proofs.lemmas.Bool.Decides.{nat_tests}
use Rattle.network.specs.Net.{Fit, Limits, no_line}
use Rattle.series.specs.Sound.{SoundSign}
use Rattle.series.specs.Job.{Job, job_of, part_count, sign_count, part_at, sign_at, line_at, standing_line, pair_line, count_line, sink_node, job_net, line_count, signs_from, pairs_from, fewest, utmost}
use Rattle.series.specs.declared.one_series.OneSeries.{OneSeries}
use Rattle.series.specs.declared.records.Standing.{Standing}
use Rattle.series.specs.declared.records.Standing.TheVariants.{LeftOut, Optional, Required}

-- A job of at most 64 parts and 64 signs, each sign sound.
pub record Held (job : Job) : Type 0 where
  pub parts : part_count job ≤ 64
  pub signs : sign_count job ≤ 64
  pub sound : (s : ℕ) → s < sign_count job → SoundSign (sign_at job s)

pub held : (x : OneSeries) → Held (job_of x)
held x = record { parts = x.parts_fit; signs = x.signs_fit; sound = x.signs_sound }

standing_ordered : (s : Standing) → (fewest s ≤ utmost s) × (utmost s ≤ 65535)
standing_ordered LeftOut = (omega arith, omega arith)
standing_ordered Optional = (omega arith, omega arith)
standing_ordered Required = (omega arith, omega arith)

-- a product above 0 has no factor 0
pub factor_pos : (a b : ℕ) → 0 < a * b → 0 < b
factor_pos a zero h = omega (arith, h, mul-zero a)
factor_pos a (suc b) h = omega arith

module _ (job : Job) (h : Held job) where
  standing_fits : (p : ℕ) → p < part_count job → Fit (sink_node job + 1) (standing_line job p)
  standing_fits p l = let o = standing_ordered (part_at job p).standing in record { tail = omega arith; head = omega arith; ordered = o.0; small = o.1 }

  pair_fits : (p s : ℕ) → p < part_count job → s < sign_count job → Fit (sink_node job + 1) (pair_line job p s)
  pair_fits p s l k = record { tail = omega arith; head = omega arith; ordered = omega arith; small = grind (arith, nat_tests) }

  count_fits : (s : ℕ) → s < sign_count job → Fit (sink_node job + 1) (count_line job s)
  count_fits s l = record { tail = omega arith; head = omega arith; ordered = (h.sound s l).0; small = omega (arith, (h.sound s l).1) }

  -- a place among the pairs is that of a part and a sign of the job
  pub pair_places : (k : ℕ) → pairs_from job ≤ k → k < signs_from job → ((k - pairs_from job) / sign_count job < part_count job) × ((k - pairs_from job) % sign_count job < sign_count job)
  pair_places k l u =
      let inside : k - part_count job < part_count job * sign_count job = omega arith in
      let some : 0 < sign_count job = factor_pos (part_count job) (sign_count job) (omega arith) in
      (div_below _ _ _ some inside, mod_below _ _ some)

  line_fits : (k : ℕ) → k < line_count job → Fit (sink_node job + 1) (line_at job k)
  line_fits k l = grind (arith, nat_tests, standing_fits, pair_fits, count_fits, pair_places k)

  few_lines : line_count job ≤ 16384
  few_lines = omega (arith, mul-le (part_count job) (sign_count job) 64 64 h.parts h.signs, h.parts, h.signs)

  pub job_limits : Limits (job_net job)
  job_limits = record {
    nodes = omega (arith, h.parts, h.signs);
    count = rw length-map-range_with_len few_lines;
    each = λ k l. let inside : k < line_count job = rw length-map-range_with_len at l in rw (get_or-map-range_with_len (line_at job) 0 (line_count job) k k no_line inside (omega arith)) (line_fits k inside);
  }

pub limits_of : (x : OneSeries) → Limits (job_net (job_of x))
limits_of x = job_limits (job_of x) (held x)
