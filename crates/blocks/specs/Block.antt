-- What it is for bytes to be a block of a job file.
use Rattle.std.specs.Prelude.{◌≡◌, ℕ, ◌+◌, ◌*◌, ◌%◌, ◌≤◌, List, length}
use Rattle.network.specs.Sum.{upto}
use Rattle.blocks.specs.Bytes.{byte_at, number_at, Zeros, part_at}

-- the first n bytes, each times its place counted from 1, summed
unfoldable pub weighted : ℕ → List ℕ → ℕ
weighted n block = upto n (λ p. (p + 1) * byte_at block p)

-- The check of a block. Nothing above unfolds it.
unfoldable pub check_of : List ℕ → ℕ
check_of block = weighted 510 block % 65521

-- the check that a block holds
abbrev pub stored_check : List ℕ → ℕ
stored_check block = number_at 2 block 510

abbrev pub Checked : List ℕ → Type 0
Checked block = stored_check block ≡ check_of block

-- how many records a block says that it holds
abbrev pub record_count : List ℕ → ℕ
record_count block = byte_at block 1

-- where record r begins, and where the bytes after the first r records begin
abbrev pub record_start : ℕ → ℕ
record_start r = 4 + 30 * r

-- record r of a block: 30 bytes
abbrev pub record_of : List ℕ → ℕ → List ℕ
record_of block r = part_at 30 block (record_start r)

-- The block b of a file: 512 bytes.
abbrev pub block_of : List ℕ → ℕ → List ℕ
block_of file b = part_at 512 file (512 * b)

-- A block of this kind stands at this place of the file and holds so many records, from fewest to utmost; the rest up to the check is zero.
pub record Laid (letter index fewest utmost : ℕ) (block : List ℕ) : Type 0 where
  pub long : length block ≡ 512
  pub kind : byte_at block 0 ≡ letter
  pub some : fewest ≤ record_count block
  pub few : record_count block ≤ utmost
  pub place : number_at 2 block 2 ≡ index
  pub rest : Zeros (record_start (record_count block)) 510 block

pub record Block (letter index fewest utmost : ℕ) (block : List ℕ) : Type 0 where
  pub check : Checked block
  pub laid : Laid letter index fewest utmost block
