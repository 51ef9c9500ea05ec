use Rattle.std.proofs.Common.{length}
use Rattle.format.proofs.OneFile.{same_file}
use Rattle.format.proofs.at_most_one_file.Goals as goal

pub returns : goal.returns
returns c = λ file other k a b f g. same_file file other k (length k.parts) (length k.signs) a b f g
