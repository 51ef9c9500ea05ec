use Rattle.std.proofs.Common.{◌≡◌, ℕ, ◌<◌, get_or}
use Rattle.solutions.specs.Carried.{byte_of}
use Rattle.numbering.proofs.number.write_signs.Given as goal

abbrev pub invariant-loop-part : goal.invariant-loop-part
invariant-loop-part g l = (p : ℕ) → p < l.part → get_or l.bytes p 0 ≡ byte_of (g.L.Legend.key l.legend) l.memory.flow.now p
