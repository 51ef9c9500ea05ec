use Rattle.std.proofs.Common.{◌≡◌, ℕ, ◌<◌, ltb, Some, None, sym, arith, rules, tests}
use Rattle.std.proofs.lemmas.Iterator.{first_from_Range}
use Rattle.std.proofs.lemmas.Bool.{lt-ltb, le-ltb}
use Rattle.series.specs.Numbering.{unsigned}
use Rattle.solutions.specs.Carried.{over_line}
use Rattle.solutions.proofs.Choice.{lowest_found, lowest_none}
use Rattle.numbering.proofs.number.sign_of.Goals as goal

pub returns-in-Some : goal.returns-in-Some
returns-in-Some g c =
    let key = g.L.Legend.key c.args.legend.now in
    let amount : ℕ → ℕ = λ s. over_line c.args.flow.now (key.pair_line c.args.part s) in
    let first = first_from_Range _ _ _ (Some c.in-Some.sign) (λ s. 0 < amount s) (λ s. amount s ≡ 0) c.in-Some.ensures.ran
    (λ x q k. search (rules, tests))
    (λ x q k. (search rules, search (rules, tests))) in
    sym (lowest_found key.signs (λ s. ltb 0 (amount s)) unsigned c.in-Some.sign (omega (arith, c.signs.ensures, first.1)) (lt-ltb 0 (amount c.in-Some.sign) first.2) (λ s h. le-ltb 0 (amount s) (omega (arith, first.3 s (omega arith) h))))

pub returns-in-None : goal.returns-in-None
returns-in-None g c =
    let key = g.L.Legend.key c.args.legend.now in
    let amount : ℕ → ℕ = λ s. over_line c.args.flow.now (key.pair_line c.args.part s) in
    let first = first_from_Range _ _ _ None (λ s. 0 < amount s) (λ s. amount s ≡ 0) c.in-None.ensures.ran
    (λ x q k. search (rules, tests))
    (λ x q k. (search rules, search (rules, tests))) in
    sym (lowest_none key.signs (λ s. ltb 0 (amount s)) unsigned (λ s h. le-ltb 0 (amount s) (omega (arith, first s (omega arith) (omega (arith, c.signs.ensures))))))
