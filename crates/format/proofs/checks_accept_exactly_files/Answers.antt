use Rattle.jobfile.proofs.Files.{file_of}
use Rattle.format.proofs.Exact.{at_head, formed}
use Rattle.format.proofs.checks_accept_exactly_files.Goals as goal

pub returns : goal.returns
returns c = λ file. record { accepted = file_of file; files = λ k f. formed file k (at_head file k f) }
