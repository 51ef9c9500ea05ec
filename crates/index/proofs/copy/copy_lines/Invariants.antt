use Rattle.index.specs.Copy.{Held}
use Rattle.index.proofs.copy.copy_lines.Given as goal

-- each line passed so far is held as it was told
abbrev pub invariant-loop-place : goal.invariant-loop-place
invariant-loop-place g l = Held (g.N.Network.meaning l.network) l.lines l.place
