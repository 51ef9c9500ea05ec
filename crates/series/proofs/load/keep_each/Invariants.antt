use Rattle.series.specs.Load.{KeptFirst}
use Rattle.series.proofs.load.keep_each.Given as goal

abbrev pub invariant-loop-place : goal.invariant-loop-place
invariant-loop-place g l = KeptFirst (goal.F-post g l.keep) l.records l.place l.kept.items
