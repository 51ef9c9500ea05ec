use Rattle.std.proofs.lemmas.Bool.Decides.{not_from_Decides}
use Rattle.sift.specs.Memory.{contents}
use Rattle.sift.specs.Workspace.{Workspace}
use Rattle.sift.proofs.Lift.{front_exact, sifted_front}
use Rattle.sift.proofs.sift.sift.Goals as goal

pub returns-clause-sifted : goal.returns-clause-sifted
returns-clause-sifted g c =
    let m = g.N.Network.meaning c.args.network.now in
    let last = c.sift_parts.new in
    let part : Workspace = record { flow = last.flow; verdicts = last.verdicts; bottleneck = last.bottleneck; marks = last.marks; nodes = last.nodes; steps = last.steps } in
    let before = contents c.args.memory.now in
    let roomy = not_from_Decides _ c.is_short.ensures c.if-is_short.false in
    let auto = c.sift_parts.auto in
    let exact = front_exact m _ _ c.nodes-n.ensures c.lines-a.ensures before part roomy auto.flow auto.verdicts auto.bottleneck auto.marks auto.nodes auto.steps in
    sifted_front m _ _ c.nodes-n.ensures c.lines-a.ensures before part roomy exact c.sift_parts.result c.sift_parts.ensures
