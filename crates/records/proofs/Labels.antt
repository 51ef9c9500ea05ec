-- The label that bytes hold: its length and its bytes.
use Rattle.std.proofs.Common.{◌≡◌, ℕ, ◌+◌, ◌<◌, ◌≤◌, min, List, length, drop, ◌∙◌, arith, length-drop, length-take, get_or-take}
use Rattle.std.proofs.lemmas.List.{get_or-drop}
use Rattle.blocks.specs.Bytes.{byte_at}
use Rattle.records.specs.Records.{label_of}

pub label_length : (size : ℕ) (bytes : List ℕ) → size < length bytes → byte_at bytes 0 ≤ size → length (label_of size bytes) ≡ byte_at bytes 0
label_length size bytes l h = simp (length-take, length-drop) (omega arith)

pub label_small : (size : ℕ) (bytes : List ℕ) → length (label_of size bytes) ≤ size
label_small size bytes = simp (length-take, length-drop) (omega arith)

pub label_at : (size : ℕ) (bytes : List ℕ) (i : ℕ) → i < length (label_of size bytes) → byte_at (label_of size bytes) i ≡ byte_at bytes (1 + i)
label_at size bytes i h =
    let e : length (label_of size bytes) ≡ min (min (byte_at bytes 0) size) (length (drop 1 bytes)) = length-take (min (byte_at bytes 0) size) (drop 1 bytes) in
    let l : i < min (byte_at bytes 0) size = omega arith in
    get_or-take (min (byte_at bytes 0) size) (drop 1 bytes) i 0 l ∙ get_or-drop 1 bytes i 0
