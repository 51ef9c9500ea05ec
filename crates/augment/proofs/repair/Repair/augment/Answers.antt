use Rattle.std.proofs.Common.{◌≤◌, sym, subst, arith}
use Rattle.network.specs.Flow.{at}
use Rattle.index.specs.declared.graph.Graph.{Graph}
use Rattle.augment.specs.Cursors.{Fresh}
use Rattle.augment.specs.Pushes.{total}
use Rattle.augment.proofs.Cursors.{fresh_start}
use Rattle.augment.proofs.repair.Repair.augment.Goals as goal

pub returns-clause-falls : goal.returns-clause-falls
returns-clause-falls c =
    let self = c.args.self.now in
    let fresh =
    subst (λ d. Fresh self.graph (at self.flow.now) (at self.lack.now) d c.new-descent.result.cursor.now) (sym c.new-descent.ensures.distance)
    (fresh_start _ c.requires.levels c.new-descent.ensures.begin) in
    let most =
    subst (λ (g : Graph). total g.nodes c.drain_all.new.self.spare.now ≤ total g.nodes c.attempt.new.self.spare.now) c.attempt.ensures.memory.graph
    c.drain_all.ensures.most in
    omega (arith, most, c.attempt.ensures.attempted.falls (c.attempt.ensures.attempted.sure fresh))
