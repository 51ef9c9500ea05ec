use Rattle.std.proofs.Common.{◌≡◌, ℕ, zero, suc, ◌+◌, ◌-◌, List, [], ◌∷◌, length, refl, ap, ◌∙◌, rules, tests, arith}
use Rattle.std.proofs.lemmas.Iterator.{items_from_collect, YieldsList-from_range}
use Rattle.std.proofs.lemmas.Iterator.Consumers.{YieldsList-from_filter_map}
use Rattle.std.specs.List.{cons_option, filter_map, range_with_len, slice_get}
use Rattle.jobfile.specs.Contents.{acts_of}
use Rattle.jobrun.proofs.file_acts.acts_of.Goals as goal

-- what stands at every place of a list, in order, is the list
behind_first : {X : Type 0} (x : X) (xs : List X) (a n : ℕ) → filter_map (slice_get (x ∷ xs)) (range_with_len (suc a) n) ≡ filter_map (slice_get xs) (range_with_len a n)
behind_first x xs a zero = refl
behind_first x xs a (suc n) =
    let next : suc a + 1 ≡ suc (a + 1) = omega arith in
    rw next (ap (cons_option (slice_get xs a)) (behind_first x xs (a + 1) n))

each_place : {X : Type 0} (xs : List X) → filter_map (slice_get xs) (range_with_len 0 (length xs)) ≡ xs
each_place [] = refl
each_place (x ∷ xs) = ap (λ ys. x ∷ ys) (behind_first x xs 0 (length xs) ∙ each_place xs)

pub returns : goal.returns
returns c =
    let acts = acts_of c.args.job.now.file.now in
    let count : c.act_count.result - 0 ≡ length acts = omega arith in
    rw (each_place acts) at (items_from_collect _ c.collect.ensures.ran (YieldsList-from_filter_map _ (slice_get acts) (YieldsList-from_range 0 c.act_count.result (length acts) (cc) count) c.filter_map.ensures.closure (λ x r q k. search (rules, tests))))
