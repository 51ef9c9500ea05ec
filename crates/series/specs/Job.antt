-- A job: its parts and signs in order, and the network that they make.
use Rattle.std.specs.Prelude.{ℕ, ◌+◌, ◌-◌, ◌*◌, ◌/◌, ◌%◌, ◌^◌, Bool, cond, List, [], ◌∷◌, ◌++◌, map, length, ◌==◌, nat_lt, slice_index_or}
use Rattle.std.specs.List.{range_with_len}
use Rattle.network.specs.Net.{Net, Line}
use Rattle.series.specs.Sound.{no_sign}
use Rattle.series.specs.declared.one_series.OneSeries.{OneSeries}
use Rattle.series.specs.declared.records.Part.{Part}
use Rattle.series.specs.declared.records.SignRecord.{SignRecord}
use Rattle.series.specs.declared.records.Standing.{Standing}
use Rattle.series.specs.declared.records.Standing.TheVariants.{LeftOut, Optional, Required}

pub record Job : Type 0 where
  pub parts : List Part
  pub signs : List SignRecord

-- the job that a one-series network holds
abbrev pub job_of : OneSeries → Job
job_of x = record { parts = x.parts.items; signs = x.signs.items }

-- how many parts and signs there are, and each of them by its place
abbrev pub part_count : Job → ℕ
part_count job = length job.parts

abbrev pub sign_count : Job → ℕ
sign_count job = length job.signs

abbrev pub no_part : Part
no_part = record { mask = 0; standing = LeftOut }

abbrev pub part_at : Job → ℕ → Part
part_at job p = slice_index_or job.parts p no_part

abbrev pub sign_at : Job → ℕ → SignRecord
sign_at job s = slice_index_or job.signs s no_sign

-- bit s of the mask is set
abbrev pub allows : ℕ → ℕ → Bool
allows mask s = (mask / 2 ^ s) % 2 == 1

-- a required part is signed, a left-out part is not: the bounds of the amount that enters it
abbrev pub fewest : Standing → ℕ
fewest LeftOut = 0
fewest Optional = 0
fewest Required = 1

abbrev pub utmost : Standing → ℕ
utmost LeftOut = 0
utmost Optional = 1
utmost Required = 1

-- Nodes: the source, then the parts, then the signs, last the sink.
abbrev pub source_node : ℕ
source_node = 0

abbrev pub part_node : ℕ → ℕ
part_node p = 1 + p

abbrev pub sign_node : Job → ℕ → ℕ
sign_node job s = 1 + part_count job + s

abbrev pub sink_node : Job → ℕ
sink_node job = 1 + part_count job + sign_count job

-- Places of the lines: one for each part, then one for each pair of part and sign, then one for each sign.
abbrev pub pairs_from : Job → ℕ
pairs_from job = part_count job

abbrev pub signs_from : Job → ℕ
signs_from job = part_count job + part_count job * sign_count job

abbrev pub line_count : Job → ℕ
line_count job = signs_from job + sign_count job

-- source to part, by its standing
abbrev pub standing_line : Job → ℕ → Line
standing_line job p = (source_node, part_node p, fewest (part_at job p).standing, utmost (part_at job p).standing)

-- part to sign: it may carry 1 where the mask allows the sign
abbrev pub pair_line : Job → ℕ → ℕ → Line
pair_line job p s = (part_node p, sign_node job s, 0, cond (allows (part_at job p).mask s) 1 0)

-- sign to sink, with the sign's bounds, also for a sign that no mask allows
abbrev pub count_line : Job → ℕ → Line
count_line job s = (sign_node job s, sink_node job, (sign_at job s).least, (sign_at job s).most)

-- the line at each place; the pair of part p and sign s stands at n + p * m + s
abbrev pub line_at : Job → ℕ → Line
line_at job k =
    cond (nat_lt k (pairs_from job)) (standing_line job k) (cond (nat_lt k (signs_from job)) (pair_line job ((k - pairs_from job) / sign_count job) ((k - pairs_from job) % sign_count job)) (count_line job (k - signs_from job)))

-- the network of the parts and signs
abbrev pub job_net : Job → Net
job_net job = record { nodes = sink_node job + 1; lines = map (line_at job) (range_with_len 0 (line_count job)) }

-- The network of a whole job: these lines and one more, the last, from sink to source with the bounds of the total.
abbrev pub total_line : Job → ℕ → ℕ → Line
total_line job lo hi = (sink_node job, source_node, lo, hi)

abbrev pub whole_net : Job → ℕ → ℕ → Net
whole_net job lo hi = record { nodes = sink_node job + 1; lines = (job_net job).lines ++ total_line job lo hi ∷ [] }
