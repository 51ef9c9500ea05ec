use Rattle.layers.proofs.Standing.{undoes_standing}
use Rattle.layers.proofs.theorems.undoing_keeps_entries_standing.Goals as goal

pub returns : goal.returns
returns c = undoes_standing
