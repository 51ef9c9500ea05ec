use Rattle.std.proofs.lemmas.Slice.Eq.{slice_eq-Decides}
use Rattle.records.specs.Text.{SameText}
use Rattle.records.proofs.label.same_text.Goals as goal
use Rattle.std.proofs.lemmas.Bool.Decides.{Decides-eqb}

pub returns : goal.returns
unfolding SameText
returns c = slice_eq-Decides Decides-eqb _ _ _ c.eq.ensures
