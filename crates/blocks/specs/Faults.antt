-- The faults of a block: the number and the block that each tells, and when each is given.
use Rattle.std.specs.Prelude.{◌≡◌, ℕ, List, Ok, Err, Result}
use Rattle.blocks.specs.Block.{Checked, Laid, Block, record_count}
use Rattle.blocks.specs.declared.fault.BlockFault.{BlockFault}
use Rattle.blocks.specs.declared.fault.BlockFault.TheVariants.{Check, Layout}

-- the number of each fault, and the place of the block
abbrev pub block_told : BlockFault → ℕ × ℕ
block_told (Check place) = (15, place)
block_told (Layout place) = (16, place)

-- The check comes first; the block told is the one that was looked at.
abbrev pub BlockRefused : (kind place fewest utmost : ℕ) → List ℕ → BlockFault → Type 0
BlockRefused kind place fewest utmost block (Check b) = (b ≡ place) × (Checked block → ⊥)
BlockRefused kind place fewest utmost block (Layout b) = (b ≡ place) × Checked block × (Laid kind place fewest utmost block → ⊥)

-- What looking at a block gives: it is one of this kind, place and record count, and the count is told; or its fault.
abbrev pub BlockRead : (kind place fewest utmost : ℕ) → List ℕ → Result ℕ BlockFault → Type 0
BlockRead kind place fewest utmost block (Ok count) = Block kind place fewest utmost block × (count ≡ record_count block)
BlockRead kind place fewest utmost block (Err e) = BlockRefused kind place fewest utmost block e
