use Rattle.std.proofs.Common.{◌≡◌, ℕ, ◌+◌, ◌<◌, List, [], ◌∷◌, ◌++◌, length, get_or, Ok, Result, sym, ◌∙◌, subst, arith, rules, below_more}
use Rattle.std.proofs.lemmas.List.{get_or_default, get_or_append_left, get_or_push, length_push}
use Rattle.std.proofs.lemmas.Result.{err_from_is_err_and}
use Rattle.series.specs.Load.{KeptFirst}
use Rattle.series.proofs.load.keep_each.Goals as goal

module _ {R : Type 0} (records : List R) (i : ℕ) (inside : i < length records) (x : R) (is : x ≡ get_or records i x) where
  read : (r : R) → x ≡ get_or records i r
  read r = is ∙ get_or_default records i x r inside

  kept_more : {T E : Type 0} (Keeps : ℕ → R → Result T E → Type 0) (kept : List T) (y : T) → KeptFirst Keeps records i kept → Keeps i x (Ok y) → KeptFirst Keeps records (i + 1) (kept ++ y ∷ [])
  kept_more Keeps kept y so_far h =
      let long = so_far.long in
      record {
        long = length_push kept y ∙ omega arith;
        each = below_more _ i (λ k l r t. subst (λ z. Keeps k (get_or records k r) (Ok z)) (sym (get_or_append_left kept (y ∷ []) t k (omega arith))) (so_far.each k l r t)) (λ r t. rw (← read r, get_or_push kept y t i long) h);
      }

pub loop-place-preserved : goal.loop-place-preserved
loop-place-preserved g c =
    let l = c.loop-place in
    rw c.push.ensures.items (kept_more c.args.records.now l.place (omega arith) c.index-records-place.result c.index-records-place.is (goal.F-post g c.args.keep) l.kept.items c.in_ok-keep.field-0 l.invariant (search rules))

pub returns-in_err-keep : goal.returns-in_err-keep
returns-in_err-keep g c =
    let l = c.loop-place in
    let here = read c.args.records.now l.place (omega arith) c.index-records-place.result c.index-records-place.is in
    let told = err_from_is_err_and c.from_residual.result c.from_residual.ensures.1 in
    rw told.1 (record { place = l.place; inside = omega arith; kept = l.kept.items; before = l.invariant; refused = λ r. rw (← here r) (search rules) })
