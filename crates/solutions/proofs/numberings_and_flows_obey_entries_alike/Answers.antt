use Rattle.solutions.proofs.Obeyed.{flows_told_under}
use Rattle.solutions.proofs.numberings_and_flows_obey_entries_alike.Goals as goal

pub returns : goal.returns
returns c = flows_told_under
