use Rattle.std.proofs.Common.{◌≡◌, ℕ, ◌<◌, length, ◌∙◌, sym, subst, arith}
use Rattle.network.proofs.Records.{size_is}
use Rattle.network.specs.Net.{line, least}
use Rattle.network.specs.Flow.{at}
use Rattle.network.specs.Records.{net_of}
use Rattle.circulation.specs.Gathering.{SameDifference}
use Rattle.circulation.proofs.Gathering.{mending_start}
use Rattle.circulation.proofs.start.start.Goals as goal

pub returns : goal.returns
returns c =
    let graph = c.args.graph.now in
    let size = size_is graph.nodes graph.lines.now in
    let lowest = subst (λ ls. (i : ℕ) → i < length ls → at c.carry_least.new.flow i ≡ least (line (net_of 0 ls) i)) c.lines.ensures c.carry_least.ensures in
    let settled =
    subst (λ n. SameDifference n c.gather.new.entered c.gather.new.left c.settle.new.spare c.settle.new.lack) (c.gather.auto.entered ∙ c.requires.spare)
    c.settle.ensures in
    mending_start graph.limits _ _ _ _ _ (omega (arith, c.carry_least.auto.flow, c.requires.flow)) (λ i l. lowest i (omega arith)) _ (sym size) c.gather.ensures settled
