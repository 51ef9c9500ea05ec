-- When two signs have the same text. Nothing above the reader unfolds this.
use Rattle.std.specs.Prelude.{◌≡◌, ℕ, List}

unfoldable pub SameText : List ℕ → List ℕ → Type 0
SameText a b = a ≡ b
