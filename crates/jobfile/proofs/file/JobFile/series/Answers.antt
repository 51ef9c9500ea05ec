use Rattle.std.proofs.Common.{◌≡◌, Ok, Err, ap, ◌∙◌, rules}
use Rattle.std.proofs.lemmas.Result.{MatchResult-weaker, err_from_is_err_and}
use Rattle.layout.specs.declared.shape.Shape.{Shape}
use Rattle.jobfile.specs.declared.fault.JobFault.TheVariants.{Load}
use Rattle.jobfile.proofs.Loaded.{series_made}
use Rattle.jobfile.proofs.file.JobFile.series.Goals as goal

pub returns : goal.returns
returns c =
    let made = c.map_err.result in
    let n = c.in_ok-parts.field-0.parts in
    series_made c.args.self.now.file.now _ _ (c.deref.ensures.0 ∙ c.part_records.ensures) (c.deref-2.ensures.0 ∙ c.sign_records.ensures) n c.loaded.result made (ap (λ (s : Shape). s.parts) c.in_ok-parts.ensures.1) c.loaded.ensures
    (MatchResult-weaker c.loaded.result {P' = λ x. made ≡ Ok x} {Q' = λ e. made ≡ Err (Load e n)} c.map_err.ensures.cases (λ x h. h) (λ e h. let p = err_from_is_err_and made h in search rules))
