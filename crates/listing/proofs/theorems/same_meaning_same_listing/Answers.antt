use Rattle.listing.proofs.SameText.{same_listing}
use Rattle.listing.proofs.theorems.same_meaning_same_listing.Goals as goal

pub returns : goal.returns
returns c = same_listing
