-- The faults of a record, a block's among them: the number, the block and the record that each tells.
use Rattle.std.specs.Prelude.{ℕ}
use Rattle.blocks.specs.Faults.{block_told}
use Rattle.records.specs.declared.fault.RecordFault.{RecordFault}
use Rattle.records.specs.declared.fault.RecordFault.TheVariants.{Block, Job, Act}

-- the number, the block counted from 0, and the record counted from 1; a fault of a whole block tells record 0
abbrev pub record_told : RecordFault → ℕ × ℕ × ℕ
record_told (Block e) = ((block_told e).0, (block_told e).1, 0)
record_told (Job block r) = (17, block, r)
record_told (Act block r) = (18, block, r)
