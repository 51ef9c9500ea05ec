use Rattle.std.proofs.Common.{arith}
use Rattle.std.proofs.lemmas.List.FromFn.{fill_by_all}
use Rattle.solutions.specs.Carried.{byte_of}
use Rattle.numbering.proofs.number.write_signs.Goals as goal

pub returns : goal.returns
returns g c =
    let key = g.L.Legend.key c.args.legend.now in
    fill_by_all (byte_of key c.args.memory.now.flow.now) c.loop-part.bytes key.parts 0 (omega (arith, c.requires)) (λ p h. c.loop-part.invariant p (omega (arith, c.requires)))
