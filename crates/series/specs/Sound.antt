-- When the records of a job are sound.
use Rattle.std.specs.Prelude.{ℕ, ◌<◌, ◌≤◌, List, slice_index_or}
use Rattle.series.specs.declared.records.SignRecord.{SignRecord}

abbrev pub no_sign : SignRecord
no_sign = record { least = 0; most = 0 }

-- A sign is used at least so often and at most so often, in order, and at most 64 times.
abbrev pub SoundSign : SignRecord → Type 0
SoundSign s = (s.least ≤ s.most) × (s.most ≤ 64)

-- the first m signs are sound
abbrev pub SoundSigns : List SignRecord → ℕ → Type 0
SoundSigns signs m = (s : ℕ) → s < m → SoundSign (slice_index_or signs s no_sign)
