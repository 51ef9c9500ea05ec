-- The numbers that stand for verdicts in lent memory.
use Rattle.std.specs.Prelude.{ℕ}
use Rattle.verdicts.specs.declared.verdict.Verdict.{Verdict}
use Rattle.verdicts.specs.declared.verdict.Verdict.TheVariants.{Free, Fixed}

abbrev pub number : Verdict → ℕ
number Free = 0
number Fixed = 1
