use Rattle.format.proofs.Whole.{whole_file, whole_file_is, whole_bytes}
use Rattle.format.proofs.at_least_one_file.Goals as goal

pub returns : goal.returns
returns c = λ k w. (whole_file k, (whole_bytes k w, whole_file_is k w))
