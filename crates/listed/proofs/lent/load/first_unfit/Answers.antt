use Rattle.std.proofs.Common.{ℕ, ◌<◌, List, length, Some, None, Option, MatchOption, sym, subst, arith, rules}
use Rattle.std.proofs.lemmas.Iterator.{IsFirst-from_position, YieldsList-from_slice}
use Rattle.std.specs.List.{AllWithin, HoldsAt}
use Rattle.network.specs.Net.{Fit}
use Rattle.network.specs.Records.{net_of, line_of}
use Rattle.network.specs.declared.line_record.LineRecord.{LineRecord}
use Rattle.network.proofs.Records.{no_record, size_is, line_is}
use Rattle.listed.specs.Load.{AllFit, FirstUnfit}
use Rattle.listed.proofs.lent.load.first_unfit.Goals as goal

module _ (nodes : ℕ) (records : List LineRecord) where
  abbrev Fits : LineRecord → Type 0
  Fits r = Fit nodes (line_of r)

  first_told : (r : Option ℕ) → MatchOption r (AllWithin Fits records 0 (length records)) (λ i. (i < length records) × HoldsAt (λ x. Fits x → ⊥) records i × AllWithin Fits records 0 i) → MatchOption r (AllFit (net_of nodes records)) (FirstUnfit (net_of nodes records))
  first_told None all = λ k h. subst (Fit nodes) (sym (line_is nodes records k)) (all k no_record (omega arith) (omega (arith, size_is nodes records)))
  first_told (Some i) h = record {
    inside = omega (arith, size_is nodes records, h.0);
    unfit = λ fit. h.1 no_record (subst (Fit nodes) (line_is nodes records i) fit);
    before = λ k l. subst (Fit nodes) (sym (line_is nodes records k)) (h.2 k no_record (omega arith) l);
  }

pub returns : goal.returns
returns c =
    let nodes = c.args.nodes in
    first_told nodes c.args.records.now c.position.result (IsFirst-from_position _ _ c.position.result (λ r. Fits nodes c.args.records.now r → ⊥) (Fits nodes c.args.records.now) c.position.ensures.ran (YieldsList-from_slice c.args.records.now cc) (λ x q k. search rules) (λ x q k. search rules))
