use Rattle.std.proofs.Common.{◌+◌, arith}
use Rattle.std.proofs.lemmas.List.FromFn.{fill_by_all}
use Rattle.series.specs.Job.{job_of, line_count}
use Rattle.series.specs.Key.{role_at}
use Rattle.solutions.specs.Carried.{carried}
use Rattle.numbering.proofs.flow.write_amounts.Goals as goal

pub returns : goal.returns
returns c =
    let job = job_of c.args.series.now in
    fill_by_all (λ k. carried c.args.bytes.now (role_at job k)) c.loop-place.flow (line_count job + 1) 0 (omega (arith, c.requires.flow)) (λ k h. c.loop-place.invariant k (omega (arith, c.requires.flow)))
