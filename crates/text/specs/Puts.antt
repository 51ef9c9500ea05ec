-- Bytes put behind what stands of a text.
use Rattle.std.specs.Prelude.{◌≡◌, ℕ, ◌-◌, List, length}
use Rattle.buffers.specs.declared.places.Places.{Places}
use Rattle.text.specs.Placed.{Placed}

-- how many more bytes have room
abbrev pub room : Places ℕ → ℕ
room text = length text.cells.now - text.len

-- The text stays in the same lent places, with these bytes behind what stood.
pub record Puts (before : Places ℕ) (bytes : List ℕ) (after : Places ℕ) : Type 0 where
  pub lent : after.cells.ghost_name ≡ before.cells.ghost_name
  pub placed : Placed before.cells.now before.len bytes after.cells.now after.len
