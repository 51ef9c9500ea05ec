-- What a job file holds: a job with its labels and the bounds of its total, and acts.
use Rattle.std.specs.Prelude.{ℕ, ◌+◌, ◌-◌, List, map}
use Rattle.std.specs.List.{range_with_len, flat_map}
use Rattle.blocks.specs.Block.{block_of, record_of, record_count}
use Rattle.contents.specs.Labels.{Labelled}
use Rattle.contents.specs.declared.act.Act.{Act}
use Rattle.records.specs.Records.{part_from, sign_from, act_from}
use Rattle.layout.specs.Places.{block_count, parts_start, signs_start, acts_start, record_at, parts_in, signs_in, least_total, most_total, name_at, text_at}
use Rattle.series.specs.declared.records.PartRecord.{PartRecord}
use Rattle.series.specs.declared.records.SignRecord.{SignRecord}

pub record Contents : Type 0 where
  pub parts : List PartRecord
  pub signs : List SignRecord
  pub labels : Labelled
  pub lo : ℕ
  pub hi : ℕ
  -- block by block
  pub acts : List (List Act)

-- What the bytes of a file hold, each thing read at its place.
abbrev pub parts_of : List ℕ → List PartRecord
parts_of file = map (λ p. part_from (record_at file parts_start p)) (range_with_len 0 (parts_in file))

abbrev pub signs_of : List ℕ → List SignRecord
signs_of file = map (λ s. sign_from (record_at file (signs_start (parts_in file)) s)) (range_with_len 0 (signs_in file))

-- the first n names, and the first m texts
abbrev pub names_of : List ℕ → (n : ℕ) → List (List ℕ)
names_of file n = map (name_at file) (range_with_len 0 n)

abbrev pub texts_of : List ℕ → (m : ℕ) → List (List ℕ)
texts_of file m = map (text_at file (parts_in file)) (range_with_len 0 m)

abbrev pub labels_of : List ℕ → Labelled
labels_of file = record { names = names_of file (parts_in file); texts = texts_of file (signs_in file) }

-- the first block of the acts, and how many blocks they have
abbrev pub acts_from : List ℕ → ℕ
acts_from file = acts_start (parts_in file) (signs_in file)

abbrev pub act_blocks : List ℕ → ℕ
act_blocks file = block_count file - acts_from file

-- the acts of block a of their kind
abbrev pub acts_in : List ℕ → ℕ → List Act
acts_in file a = map (λ r. act_from (record_of (block_of file (acts_from file + a)) r)) (range_with_len 0 (record_count (block_of file (acts_from file + a))))

-- all acts in order
abbrev pub acts_of : List ℕ → List Act
acts_of file = flat_map (acts_in file) (range_with_len 0 (act_blocks file))

abbrev pub contents_of : List ℕ → Contents
contents_of file = record {
  parts = parts_of file;
  signs = signs_of file;
  labels = labels_of file;
  lo = least_total file;
  hi = most_total file;
  acts = map (acts_in file) (range_with_len 0 (act_blocks file));
}
