-- The set lets nothing more out, so nothing more can come in over the line.
use Rattle.flows.proofs.Lawful.{top}
use Rattle.flows.proofs.closed_set_fixes_from_above.Goals as goal

pub returns : goal.returns
returns c = top
