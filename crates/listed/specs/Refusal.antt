-- What each refusal of a list of records tells.
use Rattle.std.specs.Prelude.{ℕ, List, [], ◌∷◌}
use Rattle.listed.specs.declared.refusal.ListedRefusal.{ListedRefusal}
use Rattle.listed.specs.declared.refusal.ListedRefusal.TheVariants.{Short, TooLarge, BadLine}

-- its number, and the values that come with it
abbrev pub told : ListedRefusal → ℕ × List ℕ
told Short = (1, [])
told TooLarge = (6, [])
told (BadLine place) = (7, place ∷ [])
