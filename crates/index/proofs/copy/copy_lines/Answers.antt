use Rattle.std.proofs.Common.{◌+◌, ◌<◌, sym, ap, ◌∙◌, subst, arith}
use Rattle.network.specs.Net.{size, told}
use Rattle.network.specs.Records.{line_of}
use Rattle.index.specs.Copy.{Held}
use Rattle.index.proofs.Copied.{answer_is, answered, held_more, same_from_held, limits_same}
use Rattle.index.proofs.copy.copy_lines.Goals as goal
use Rattle.index.proofs.copy.copy_lines.Goals.{in-Some, in_default}

pub loop-place-preserved : goal.loop-place-preserved
loop-place-preserved g c =
    let n = g.N.Network.meaning c.args.network.now in
    let place = c.loop-place.place in
    let inside : place < size n = omega arith in
    elim c.match-ask.branch [
      | in-Some w ↦
          let told_is = ap (λ r. told (line_of r)) w.new.ensures ∙ answer_is n place inside _ w.in-Some.ensures in
          subst (λ records. Held n records (place + 1)) (sym w.lines-is) (held_more n c.loop-place.lines place _ (omega arith) told_is c.loop-place.invariant)
      | in_default w ↦ absurd (answered n place inside w.in_default.ensures)
    ]

pub returns : goal.returns
returns g c =
    let n = g.N.Network.meaning c.args.network.now in
    let same = same_from_held n c.loop-place.lines (omega arith) (λ k h. c.loop-place.invariant k (omega arith)) in
    record { same = same; limits = limits_same _ n same (g.N.Network.limits c.args.network.now) }
