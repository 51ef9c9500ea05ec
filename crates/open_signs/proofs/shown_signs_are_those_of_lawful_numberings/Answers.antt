use Rattle.open_signs.proofs.Numbered.{shown_signs}
use Rattle.open_signs.proofs.shown_signs_are_those_of_lawful_numberings.Goals as goal

pub returns : goal.returns
returns c = shown_signs
