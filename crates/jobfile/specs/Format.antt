-- The format of a job file: what it is for a byte string to be the file of a job with these acts. It is said place by place.
use Rattle.std.specs.Prelude.{◌≡◌, ℕ, ◌+◌, ◌*◌, ◌<◌, ◌≤◌, List, [], length, slice_index_or}
use Rattle.series.specs.Load.{no_record}
use Rattle.series.specs.Sound.{no_sign}
use Rattle.blocks.specs.Block.{Block, block_of, record_of}
use Rattle.contents.specs.declared.act.Act.{Act}
use Rattle.contents.specs.declared.act.Act.TheVariants.{Query}
use Rattle.records.specs.Records.{HeadBytes, PartBytes, SignBytes, ActBytes}
use Rattle.records.specs.Text.{SameText}
use Rattle.layout.specs.Places.{blocks_for, filled, parts_start, signs_start, acts_start, record_at, head_record}
use Rattle.jobfile.specs.Contents.{Contents}

-- A block of acts: 1 to 16 of them, each in its record.
pub record ActBlock (file : List ℕ) (b : ℕ) (acts : List Act) : Type 0 where
  pub some : 1 ≤ length acts
  pub few : length acts ≤ 16
  pub block : Block 65 b (length acts) (length acts) (block_of file b)
  pub held : (r : ℕ) → r < length acts → ActBytes (slice_index_or acts r Query) (record_of (block_of file b) r)

-- The file of a job of n parts and m signs, with acts.
pub record FileFor (file : List ℕ) (c : Contents) (n m : ℕ) : Type 0 where
  pub parts : length c.parts ≡ n
  pub names : length c.labels.names ≡ n
  pub signs : length c.signs ≡ m
  pub texts : length c.labels.texts ≡ m
  pub few_parts : n ≤ 64
  pub few_signs : m ≤ 64
  pub few_acts : length c.acts ≤ 16
  -- the head, the parts by 16, the signs by 16, the blocks of acts, and nothing else
  pub long : length file ≡ 512 * (acts_start n m + length c.acts)
  pub head : Block 74 0 1 1 (block_of file 0)
  pub head_held : HeadBytes n m c.lo c.hi (head_record file)
  pub part_blocks : (b : ℕ) → b < blocks_for n → Block 80 (parts_start + b) (filled n b) (filled n b) (block_of file (parts_start + b))
  pub parts_held : (p : ℕ) → p < n → PartBytes (slice_index_or c.parts p no_record) (slice_index_or c.labels.names p []) (record_at file parts_start p)
  pub sign_blocks : (b : ℕ) → b < blocks_for m → Block 83 (signs_start n + b) (filled m b) (filled m b) (block_of file (signs_start n + b))
  pub signs_held : (s : ℕ) → s < m → SignBytes (slice_index_or c.signs s no_sign) (slice_index_or c.labels.texts s []) (record_at file (signs_start n) s)
  -- no two signs have the same text
  pub apart : (t s : ℕ) → t < s → s < m → SameText (slice_index_or c.labels.texts t []) (slice_index_or c.labels.texts s []) → ⊥
  pub act_blocks : (a : ℕ) → a < length c.acts → ActBlock file (acts_start n m + a) (slice_index_or c.acts a [])

abbrev pub FileOf : List ℕ → Contents → Type 0
FileOf file c = FileFor file c (length c.parts) (length c.signs)
