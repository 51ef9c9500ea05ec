-- The flow shifted along the line and the trail is lawful and carries another amount.
use Rattle.flows.proofs.Round.{round}
use Rattle.flows.proofs.way_round_frees.Goals as goal

pub returns : goal.returns
returns c = round
