use Rattle.solutions.proofs.Told.{flows_told}
use Rattle.solutions.proofs.lawful_numberings_are_lawful_flows.Goals as goal

pub returns : goal.returns
returns c = flows_told
