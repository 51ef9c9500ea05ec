-- A label that was asked for is the one at its place, or no bytes.
use Rattle.std.proofs.Common.{◌≡◌, ℕ, ◌<◌, List, [], length, get_or, Some, None, Option, Bor, refl, ap, ◌∙◌, arith}
use Rattle.std.proofs.lemmas.Option.{unwrap_or-slice_get, slice_get-get_or}
use Rattle.std.specs.List.{slice_get}
use Rattle.std.specs.Option.{option_map, unwrap_or}

behind : (told : Option (Bor (List ℕ))) (none : Bor (List ℕ)) → (unwrap_or told none).now ≡ unwrap_or (option_map (λ x. x.now) told) none.now
behind None none = refl
behind (Some x) none = refl

pub told_unwrapped : (labels : List (List ℕ)) (i : ℕ) (told : Option (Bor (List ℕ))) (label none : Bor (List ℕ)) → label ≡ unwrap_or told none → none.now ≡ []
    → option_map (λ x. x.now) told ≡ slice_get labels i → label.now ≡ get_or labels i []
told_unwrapped labels i told label none is empty there =
    ap (λ x. x.now) is ∙ behind told none ∙ ap (λ o. unwrap_or o none.now) there ∙ unwrap_or-slice_get labels i none.now ∙ ap (get_or labels i) empty

pub told_label : (labels : List (List ℕ)) (i : ℕ) (label : List ℕ) → i < length labels → Some label ≡ slice_get labels i → get_or labels i [] ≡ label
told_label labels i label h e = let n = slice_get-get_or labels i [] h in cc

pub told_none : (labels : List (List ℕ)) (i : ℕ) → i < length labels → ◌≡◌ {A = Option (List ℕ)} None (slice_get labels i) → ⊥
told_none labels i h e = let n = slice_get-get_or labels i [] h in let z : ◌≡◌ {A = ℕ} 0 1 = cc in omega arith
