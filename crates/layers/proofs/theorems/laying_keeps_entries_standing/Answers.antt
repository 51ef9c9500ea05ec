use Rattle.layers.proofs.Standing.{lays_standing}
use Rattle.layers.proofs.theorems.laying_keeps_entries_standing.Goals as goal

pub returns : goal.returns
returns c = lays_standing
