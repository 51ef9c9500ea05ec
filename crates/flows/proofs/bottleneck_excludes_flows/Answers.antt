-- A lawful flow would have to carry more into the set than out of it.
use Rattle.flows.proofs.Lawful.{bottleneck_excludes}
use Rattle.flows.proofs.bottleneck_excludes_flows.Goals as goal

pub returns : goal.returns
returns c = bottleneck_excludes
