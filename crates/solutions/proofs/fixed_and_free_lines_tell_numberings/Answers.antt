use Rattle.solutions.proofs.Offered.{offers}
use Rattle.solutions.proofs.fixed_and_free_lines_tell_numberings.Goals as goal

pub returns : goal.returns
returns c = offers
