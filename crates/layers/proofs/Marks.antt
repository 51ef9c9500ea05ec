-- The marks of the lines that entries name.
use Rattle.std.proofs.Common.{◌≡◌, ℕ, suc, ◌<◌, ◌≤◌, Bool, true, false, List, [], ◌∷◌, ◌++◌, length, get_or, set, refl, arith}
use Rattle.std.proofs.lemmas.List.{get_or-set_same, get_or-set_other, get_or_past}
use Rattle.std.proofs.lemmas.List.Elements.{All-push}
use Rattle.std.proofs.lemmas.Bool.Decides.{nat_tests}
use Rattle.layers.specs.Named.{marks, Marked}
use Rattle.layers.specs.Narrow.{narrow, narrowed}
use Rattle.layers.specs.declared.entry.Bounds.{Bounds}
use Rattle.layers.specs.declared.entry.Entry.{Entry}

-- past the end no line is marked
pub mark_past : (named : List Bool) (place : ℕ) → length named ≤ place → marks named place ≡ false
mark_past named place h = get_or_past named place false h

-- one entry more, with its mark
pub marked_more : (named : List Bool) (entries : List Entry) (e : Entry) → e.line < length named → Marked named entries → Marked (set named e.line true) (entries ++ e ∷ [])
marked_more named entries e inside m =
    let same = get_or-set_same named e.line true false inside in
    All-push (λ x. marks (set named e.line true) x.line ≡ true) entries e
    (λ k d l. grind (arith, nat_tests, m k d l, same, get_or-set_other named e.line (get_or entries k d).line true false)) same

-- a line without its mark is named by no entry, so that they leave its bounds
pub unmarked_same : (named : List Bool) (place : ℕ) → marks named place ≡ false → (b : Bounds) (es : List Entry) → Marked named es → b ≡ narrowed place b es
unmarked_same named place clear b [] m = refl
unmarked_same named place clear b (e ∷ es) m =
    let marked = m 0 e (omega arith) in
    let off : narrow place b e ≡ b = grind (arith, nat_tests, marked) in
    rw off (unmarked_same named place clear b es (λ k d l. m (suc k) d (omega arith)))
