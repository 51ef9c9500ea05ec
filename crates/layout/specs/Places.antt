-- Where the blocks and records of a job file stand.
use Rattle.std.specs.Prelude.{ℕ, ◌+◌, ◌-◌, ◌*◌, ◌/◌, ◌%◌, min, List, length}
use Rattle.blocks.specs.Bytes.{byte_at}
use Rattle.blocks.specs.Block.{block_of, record_of}
use Rattle.records.specs.Records.{label_of}

-- how many blocks a file has
abbrev pub block_count : List ℕ → ℕ
block_count file = length file / 512

-- how many blocks so many parts or signs fill, 16 to a block
abbrev pub blocks_for : ℕ → ℕ
blocks_for n = (n + 15) / 16

-- how many of n parts or signs stand in block b of their kind: only the last may hold fewer than 16
abbrev pub filled : ℕ → ℕ → ℕ
filled n b = min 16 (n - 16 * b)

-- The head is block 0; the blocks of the parts follow, then those of the signs, then those of the acts.
abbrev pub parts_start : ℕ
parts_start = 1

abbrev pub signs_start : ℕ → ℕ
signs_start n = 1 + blocks_for n

abbrev pub acts_start : ℕ → ℕ → ℕ
acts_start n m = 1 + blocks_for n + blocks_for m

-- the record of the part or sign k, whose kind begins with the block `start`
abbrev pub record_at : List ℕ → (start k : ℕ) → List ℕ
record_at file start k = record_of (block_of file (start + k / 16)) (k % 16)

-- The head's record, and its four numbers.
abbrev pub head_record : List ℕ → List ℕ
head_record file = record_of (block_of file 0) 0

abbrev pub parts_in : List ℕ → ℕ
parts_in file = byte_at (head_record file) 0

abbrev pub signs_in : List ℕ → ℕ
signs_in file = byte_at (head_record file) 1

abbrev pub least_total : List ℕ → ℕ
least_total file = byte_at (head_record file) 2

abbrev pub most_total : List ℕ → ℕ
most_total file = byte_at (head_record file) 3

-- the name of a part, and the text of a sign in a file of n parts
abbrev pub name_at : List ℕ → ℕ → List ℕ
name_at file p = label_of 20 (record_at file parts_start p)

abbrev pub text_at : List ℕ → (n s : ℕ) → List ℕ
text_at file n s = label_of 8 (record_at file (signs_start n) s)
