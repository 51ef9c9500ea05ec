use Rattle.layers.proofs.Standing.{standing_net}
use Rattle.layers.proofs.theorems.standing_entries_give_present_bounds.Goals as goal

pub returns : goal.returns
returns c = standing_net
