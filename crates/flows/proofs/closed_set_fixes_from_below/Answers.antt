-- The set takes in no less, so no less can go out over the line.
use Rattle.flows.proofs.Lawful.{floor}
use Rattle.flows.proofs.closed_set_fixes_from_below.Goals as goal

pub returns : goal.returns
returns c = floor
