use Rattle.std.proofs.Common.{Ok, Err, ◌++◌, drop, ap, ◌∙◌, arith}
use Rattle.std.proofs.lemmas.Result.{err_from_is_err_and}
use Rattle.sift.specs.Memory.{contents}
use Rattle.solutions.specs.Carried.{numbering_of}
use Rattle.numbering.specs.Numbered.{Numbered, Numbers}
use Rattle.numbering.proofs.Jobs.{numbers_jobs}
use Rattle.numbering.proofs.Refused.{passed_on}
use Rattle.numbering.proofs.number.number.Goals as goal

pub returns-in_err-sift : goal.returns-in_err-sift
returns-in_err-sift g c =
    let m = g.L.Network.meaning c.args.legend.now in
    let key = g.L.Legend.key c.args.legend.now in
    let bytes = c.args.numbering.now in
    let before = contents c.args.memory.now in
    let after = contents c.sift.new.memory in
    let e = c.in_err-sift.field-0.0 in
    let p = err_from_is_err_and c.from_residual.result c.from_residual.ensures.1 in
    let numbers : Numbers m key before after bytes bytes (Err e) = passed_on m key before after bytes e (omega (arith, c.parts-parts.ensures)) c.in_err-sift.ensures.sifted in
    rw (p.1, p.2) (record { lent = c.in_err-sift.ensures.lent; numbers = numbers; jobs = numbers_jobs m key before after bytes bytes (Err e) numbers })

pub returns : goal.returns
returns g c =
    let m = g.L.Network.meaning c.args.legend.now in
    let key = g.L.Legend.key c.args.legend.now in
    let bytes = c.args.numbering.now in
    let before = contents c.args.memory.now in
    let after = contents c.sift.new.memory in
    let written = ap (λ xs. xs ++ drop c.parts-parts.result bytes) c.write_signs.ensures ∙ ap (λ n. numbering_of key after.flow ++ drop n bytes) c.parts-parts.ensures in
    let numbers : Numbered m key before after bytes _ = record { long = omega (arith, c.parts-parts.ensures); sifted = c.in_ok-sift.ensures.sifted; written = written } in
    record { lent = c.in_ok-sift.ensures.lent; numbers = numbers; jobs = numbers_jobs m key before after bytes _ (Ok tt) numbers }
