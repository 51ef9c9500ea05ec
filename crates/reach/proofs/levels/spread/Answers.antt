use Rattle.std.proofs.Common.{subst}
use Rattle.reach.specs.Levels.{Finished}
use Rattle.reach.proofs.Read.{read_some, read_none}
use Rattle.reach.proofs.Spread.{spreading_more, spreading_all}
use Rattle.reach.proofs.levels.spread.Goals as goal

pub loop-node-preserved : goal.loop-node-preserved
loop-node-preserved c =
    let read = read_some _ _ _ 0 c.loop-node.queue.fits _ c.in-Some.ensures in
    spreading_more c.args.load.now.graph.limits c.loop-node.invariant read.inside c.visit.ensures.front c.visit.ensures.grown
    (subst (Finished _ _ _) read.here c.visit.ensures.finished)

pub returns : goal.returns
returns c = spreading_all c.loop-node.invariant (read_none _ _ _ 0 c.loop-node.queue.fits c.in_default.ensures)
