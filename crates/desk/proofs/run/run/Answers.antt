use Rattle.std.proofs.Common.{◌≡◌, ◌+◌, ◌<◌, length, get_or, vec_items, refl, ◌∙◌, subst, arith}
use Rattle.std.proofs.lemmas.List.{get_or_default}
use Rattle.acts.specs.Changes.{change_of}
use Rattle.contents.specs.declared.act.Act.TheVariants.{Fix, Query}
use Rattle.layers.specs.Column.{entries_of}
use Rattle.desk.specs.Steps.{Stepped}
use Rattle.desk.specs.Transcript.{Transcript}
use Rattle.desk.proofs.Loop.{Going, going_none, goes_on, gone}
use Rattle.desk.proofs.run.run.Goals as goal

pub loop-k-init : goal.loop-k-init
loop-k-init g c =
    let b = c.new-layer.result.below in
    (refl, going_none (g.L.Network.meaning b) (g.L.Legend.key b) (g.B.Labels.labelled c.args.labels.now) c.args.acts.now (entries_of c.new-layer.result.column) (vec_items c.new-transcript.result) c.new-layer.ensures.empty c.new-transcript.ensures.items)

pub step-requires : goal.step-requires
step-requires g c = rw c.loop-k.invariant.0 c.loop-k.invariant.1.stands

pub loop-k-preserved : goal.loop-k-preserved
loop-k-preserved g c =
    let b = c.new-layer.result.below in
    let l = g.B.Labels.labelled c.args.labels.now in
    let acts = c.args.acts.now in
    let k = c.loop-k.k in
    let es = entries_of c.loop-k.layer.column in
    let after = entries_of c.step.new.layer.column in
    let bytes = vec_items c.loop-k.transcript in
    let then = vec_items c.step.new.transcript in
    let inside : k < length acts = omega arith in
    let stepped = subst (λ x. Stepped (g.L.Network.meaning x) (g.L.Legend.key x) l (k + 1) (change_of (get_or acts k (Fix 0 0))) es after bytes then) c.loop-k.invariant.0 c.in_ok-step.ensures.steps in
    let given = subst (λ a. Stepped (g.L.Network.meaning b) (g.L.Legend.key b) l (k + 1) (change_of a) es after bytes then) (get_or_default acts k (Fix 0 0) Query inside) stepped in
    (c.step.ensures.below ∙ c.loop-k.invariant.0, goes_on (g.L.Network.meaning b) (g.L.Legend.key b) l acts es after bytes then k c.loop-k.invariant.1 inside given)

pub returns : goal.returns
returns g c =
    let b = c.new-layer.result.below in
    let l = g.B.Labels.labelled c.args.labels.now in
    let acts = c.args.acts.now in
    let es = entries_of c.loop-k.layer.column in
    let bytes = vec_items c.loop-k.transcript in
    let all : c.loop-k.k ≡ length acts = omega arith in
    let run-through = subst (λ n. Going (g.L.Network.meaning b) (g.L.Legend.key b) l acts es bytes n) all c.loop-k.invariant.1 in
    subst (λ x. Transcript (g.L.Network.meaning x) (g.L.Legend.key x) l acts bytes) c.new-layer.ensures.below (gone (g.L.Network.meaning b) (g.L.Legend.key b) l acts es bytes run-through)
