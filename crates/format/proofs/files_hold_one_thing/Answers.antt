use Rattle.format.proofs.Exact.{at_head, contents_are}
use Rattle.format.proofs.files_hold_one_thing.Goals as goal

pub returns : goal.returns
returns c = λ file k f. contents_are file k (at_head file k f)
