use Rattle.std.proofs.Common.{◌≡◌, ◌*◌, ◌≤◌, length}
use Rattle.blocks.specs.Block.{weighted}
use Rattle.blocks.proofs.block.check.Given as goal

abbrev pub invariant-loop-place : goal.invariant-loop-place
invariant-loop-place l = record { few : length l.byte-items ≤ 510; told : l.sum ≡ weighted l.place l.block; small : l.sum ≤ 130050 * l.place }
