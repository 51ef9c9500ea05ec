use Rattle.augment.proofs.Walks.{walk_trail}
use Rattle.augment.proofs.repair.Repair.attempt.Goals as goal

pub push-requires-clause-trail : goal.push-requires-clause-trail
push-requires-clause-trail c = walk_trail c.in-Some.ensures.ended.walk
