use Rattle.solutions.proofs.Solutions.{solutions_told}
use Rattle.solutions.proofs.lawful_numberings_are_solutions.Goals as goal

pub returns : goal.returns
returns c = solutions_told
