-- What a list over lent places holds, in terms of the places and of how many of them are in use.
use Rattle.std.specs.Prelude.{ℕ, ◌+◌, ◌-◌, List, ◌++◌, length, take, drop, Option}
use Rattle.std.specs.List.{slice_get}

-- the elements: what the places in use hold, in order
abbrev pub elements : {X : Type 0} → List X → ℕ → List X
elements cells len = take len cells

-- the last element; none in an empty list
abbrev pub last : {X : Type 0} → List X → ℕ → Option X
last cells len = slice_get (elements cells len) (len - 1)

-- the places with these elements behind the first `len`, and the others as they are
abbrev pub extended : {X : Type 0} → List X → ℕ → List X → List X
extended cells len xs = take len cells ++ (xs ++ drop (len + length xs) cells)
