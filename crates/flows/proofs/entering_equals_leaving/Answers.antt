-- What enters a set leaves it, by the sum over its nodes.
use Rattle.flows.proofs.Lawful.{cut}
use Rattle.flows.proofs.entering_equals_leaving.Goals as goal

pub returns : goal.returns
returns c = cut
