use Rattle.std.proofs.Common.{◌≡◌, ◌+◌, ◌++◌, length, take, drop, refl, ap, ◌∙◌, inl, inr, ⊎_elim, arith}
use Rattle.std.proofs.lemmas.List.{length-take-le}
use Rattle.std.proofs.lemmas.Result.{err_from_is_err_and}
use Rattle.series.specs.Job.{job_of, part_count, line_count}
use Rattle.series.specs.Limits.{held, limits_of}
use Rattle.series.specs.Counts.{size_is}
use Rattle.solutions.specs.Carried.{flow_of}
use Rattle.numbering.specs.Flowed.{TooShort}
use Rattle.numbering.proofs.Flowed.{job_is_told, refused, flowed}
use Rattle.numbering.proofs.flow.numbering_flow.Goals as goal

pub overflow_add-lines : goal.overflow_add-lines
overflow_add-lines c = omega (arith, c.lines-lines.ensures, (limits_of c.args.series.now).count)

pub returns-then-numbering-parts : goal.returns-then-numbering-parts
returns-then-numbering-parts c =
    let series = c.args.series.now in
    record {
      flows = (⊎_elim (λ h. inl (omega (arith, h, c.parts-parts.ensures))) (λ h. inr (omega (arith, h.1, c.lines-lines.ensures, size_is (job_of series)))) c.then-numbering-parts.either, refl);
      told = job_is_told (job_of series) c.args.lo c.args.hi (held series);
    }

pub returns-in_err-judge : goal.returns-in_err-judge
returns-in_err-judge c =
    let series = c.args.series.now in
    let numbering = c.args.numbering.now in
    let flow = c.args.flow.now in
    let p = err_from_is_err_and c.from_residual.result c.from_residual.ensures.1 in
    let enough : TooShort (job_of series) numbering flow → ⊥ = ⊎_elim (λ h. omega (arith, h, c.parts-parts.ensures)) (λ h. omega (arith, h, c.lines-lines.ensures, size_is (job_of series))) in
    rw (p.1, p.2) (record {
      flows = refused (job_of series) c.args.lo c.args.hi (held series) numbering flow enough c.in_err-judge.field-0.0 (omega (arith, c.parts-parts.ensures)) c.in_err-judge.ensures;
      told = job_is_told (job_of series) c.args.lo c.args.hi (held series);
    })

pub write_amounts-requires : goal.write_amounts-requires
write_amounts-requires c =
    let series = c.args.series.now in
    let parts : c.parts-parts.result ≡ part_count (job_of series) = omega (arith, c.parts-parts.ensures) in
    let lines : c.lines-lines.result + 1 ≡ line_count (job_of series) + 1 = omega (arith, c.lines-lines.ensures, size_is (job_of series)) in
    record {
      bytes = ap (λ n. length (take n c.args.numbering.now)) parts ∙ length-take-le (part_count (job_of series)) c.args.numbering.now (omega arith);
      flow = ap (λ n. length (take n c.args.flow.now)) lines ∙ length-take-le (line_count (job_of series) + 1) c.args.flow.now (omega arith);
    }

pub returns : goal.returns
returns c =
    let series = c.args.series.now in
    let job = job_of series in
    let numbering = c.args.numbering.now in
    let flow = c.args.flow.now in
    let parts : c.parts-parts.result ≡ part_count job = omega (arith, c.parts-parts.ensures) in
    let lines : c.lines-lines.result + 1 ≡ line_count job + 1 = omega (arith, c.lines-lines.ensures, size_is job) in
    let enough : TooShort job numbering flow → ⊥ = ⊎_elim (λ h. omega (arith, h, c.parts-parts.ensures)) (λ h. omega (arith, h, c.lines-lines.ensures, size_is job)) in
    let front : c.write_amounts.new.flow ≡ flow_of job (take (part_count job) numbering) = c.write_amounts.ensures ∙ ap (λ n. flow_of job (take n numbering)) parts in
    record {
      flows = flowed job c.args.lo c.args.hi (held series) numbering flow enough _ (c.in_ok-judge.ensures.told (omega (arith, c.parts-parts.ensures))) (ap (λ xs. xs ++ drop (c.lines-lines.result + 1) flow) front ∙ ap (λ n. flow_of job (take (part_count job) numbering) ++ drop n flow) lines);
      told = job_is_told job c.args.lo c.args.hi (held series);
    }
