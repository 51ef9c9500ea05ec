use Rattle.std.proofs.Common.{refl, arith}
use Rattle.std.proofs.lemmas.Bool.{both_ways}
use Rattle.records.proofs.Acts.{zeros_behind, zeros_of_rest, act_held}
use Rattle.records.proofs.act.act_of.Goals as goal
use Rattle.records.proofs.act.act_of.Goals.{then-bytes-ne30-via-then-bytes-ne30, then-bytes-ne30-via-else-bytes-ne30+then-not-zeros}

pub returns-then-bytes-ne30 : goal.returns-then-bytes-ne30
returns-then-bytes-ne30 c =
    λ good.
    elim c.then-bytes-ne30.branch [ then-bytes-ne30-via-then-bytes-ne30 w ↦ omega (arith, good.long, w.if-bytes-ne30.true) | then-bytes-ne30-via-else-bytes-ne30+then-not-zeros w ↦ both_ways w.zeros.result w.if-not-zeros.true (w.zeros.ensures.1 (zeros_of_rest c.args.bytes.now good.rest)) ]

pub returns : goal.returns
returns c =
    act_held c.args.bytes.now c.if-bytes-ne30.false (zeros_behind c.args.bytes.now (c.if-not-zeros.ensures.0 refl)) c.named.result c.named.ensures
