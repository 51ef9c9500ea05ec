-- What the set has to spare came in over lines at their least and cannot leave over lines at their most.
use Rattle.flows.proofs.Mend.{stuck}
use Rattle.flows.proofs.stuck_search_leaves_bottleneck.Goals as goal

pub returns : goal.returns
returns c = stuck
