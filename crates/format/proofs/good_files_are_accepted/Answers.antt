use Rattle.format.proofs.Unrefused.{accepted}
use Rattle.format.proofs.good_files_are_accepted.Goals as goal

pub returns : goal.returns
returns c = λ file k parts signs e f p s l o refused. accepted file k parts signs e f (p, s, l, o) refused
