use Rattle.std.proofs.Common.{◌≡◌, ℕ, ◌<◌}
use Rattle.network.specs.Net.{line, least}
use Rattle.network.specs.Flow.{at}
use Rattle.network.specs.Records.{net_of}
use Rattle.circulation.proofs.start.carry_least.Given as goal

abbrev pub invariant-loop-place : goal.invariant-loop-place
invariant-loop-place l = (k : ℕ) → k < l.place → at l.flow k ≡ least (line (net_of 0 l.lines) k)
