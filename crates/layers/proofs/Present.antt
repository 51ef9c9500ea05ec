-- Where each entry was accepted when it was laid, what the entries leave are the present bounds.
use Rattle.std.proofs.Common.{◌≡◌, ℕ, false, eqb, List, [], ◌∷◌, ◌++◌, arith}
use Rattle.std.proofs.lemmas.Bool.Decides.{nat_tests}
use Rattle.std.proofs.lemmas.List.{map-append}
use Rattle.std.proofs.lemmas.List.Elements.{filter-append}
use Rattle.std.proofs.lemmas.List.Sums.{fold-append, fold_push}
use Rattle.layers.specs.Entries.{Inside}
use Rattle.layers.specs.Narrow.{narrow, narrowed}
use Rattle.layers.specs.Present.{present_of}
use Rattle.layers.specs.declared.entry.Bound.{Bound}
use Rattle.layers.specs.declared.entry.Bound.TheVariants.{AtLeast, AtMost}
use Rattle.layers.specs.declared.entry.Bounds.{Bounds}
use Rattle.layers.specs.declared.entry.Entry.{Entry}

-- one entry more at the end
pub narrowed_push : (place : ℕ) (b : Bounds) (es : List Entry) (e : Entry) → narrowed place b (es ++ e ∷ []) ≡ narrow place (narrowed place b es) e
narrowed_push place b es e = fold_push (narrow place) b es e

-- an entry on another line changes nothing
pub narrow_off : (place : ℕ) (b : Bounds) (e : Entry) → eqb e.line place ≡ false → narrow place b e ≡ b
narrow_off place b e off = grind (arith, nat_tests)

-- one entry more is one more over those before it
present_push : (b : Bounds) (es : List Entry) (e : Entry) (place : ℕ) → present_of b (es ++ e ∷ []) place ≡ present_of (present_of b es place) (e ∷ []) place
present_push b es e place = simp (filter-append, map-append, fold-append)

-- alone, within the bounds if it is on this line, it does the same to both
alone : (b : Bounds) (n : ℕ) (kind : Bound) (x place : ℕ) → (n ≡ place → Inside b x) → narrow place b (record { line = n; bound = kind; amount = x }) ≡ present_of b (record { line = n; bound = kind; amount = x } ∷ []) place
alone b n AtLeast x place h = grind (arith, nat_tests)
alone b n AtMost x place h = grind (arith, nat_tests)

pub both_push : (b : Bounds) (es : List Entry) (e : Entry) (place : ℕ) → (e.line ≡ place → Inside (present_of b es place) e.amount) → narrow place (present_of b es place) e ≡ present_of b (es ++ e ∷ []) place
both_push b es e place h = rw (present_push b es e place) (alone (present_of b es place) e.line e.bound e.amount place h)
