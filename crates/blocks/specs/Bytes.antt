-- Bytes by their place: a byte, big-endian numbers, zeros, and a part of a byte string.
use Rattle.std.specs.Prelude.{◌≡◌, ℕ, zero, suc, ◌+◌, ◌*◌, ◌<◌, ◌≤◌, List, take, drop, slice_index}

-- the byte at a place; past the end there are zeros
abbrev pub byte_at : List ℕ → ℕ → ℕ
byte_at bytes i = slice_index bytes i

-- the number that k bytes from a place on make, the highest byte first
abbrev pub number_at : (k : ℕ) → List ℕ → ℕ → ℕ
number_at zero bytes i = 0
number_at (suc k) bytes i = number_at k bytes i * 256 + byte_at bytes (i + k)

-- the bytes from one place up to another are zero
abbrev pub Zeros : (from to : ℕ) → List ℕ → Type 0
Zeros from to bytes = (i : ℕ) → from ≤ i → i < to → byte_at bytes i ≡ 0

-- so many bytes from a place on
abbrev pub part_at : (size : ℕ) → List ℕ → ℕ → List ℕ
part_at size bytes from = take size (drop from bytes)
