-- The line that an act prints: its number, then OK or the number of the refusal.
use Rattle.std.specs.Prelude.{◌≡◌, ℕ, ◌<◌, ◌≤◌, List, [], ◌∷◌, ◌++◌, length, Ok, Err, decimal, Result}
use Rattle.network.specs.Net.{Net}
use Rattle.layers.specs.declared.entries.Entries.{Entries}
use Rattle.text.specs.Placed.{Placed}
use Rattle.acts.specs.Changes.{Ask, ActsOn, act_number}
use Rattle.acts.specs.declared.refusal.ActRefusal.{ActRefusal}
use Rattle.acts.specs.declared.refusal.ActRefusal.TheVariants.{Short, NoPlace, Lay, Undo}

-- the number in decimal digits, then " OK" and the end of the line
abbrev pub accepted_line : ℕ → List ℕ
accepted_line number = decimal number ++ 32 ∷ 79 ∷ 75 ∷ 10 ∷ []

-- the number, a space, the number of the refusal and the end of the line
abbrev pub refused_line : ℕ → ℕ → List ℕ
refused_line number refusal = decimal number ++ 32 ∷ (decimal refusal ++ 10 ∷ [])

abbrev pub act_line : ℕ → Result (Unit {0}) ActRefusal → List ℕ
act_line number (Ok _) = accepted_line number
act_line number (Err r) = refused_line number (act_number r)

-- An act that has made its line at the front of a text, the rest of which is kept.
pub record Made {N : Type 0} (meaning : N → Net) (ask : Ask) (number : ℕ) (before after : Entries N) (text text' : List ℕ) (written : ℕ) : Type 0 where
  pub room : 24 ≤ length text
  pub answer : Result (Unit {0}) ActRefusal
  pub acts : ActsOn meaning ask before after answer
  pub line : Placed text 0 (act_line number answer) text' written

-- What the call that makes an act's line does: a text shorter than 24 bytes is refused, and then nothing is done.
abbrev pub LineOn : {N : Type 0} → (N → Net) → Ask → ℕ → (before after : Entries N) → (text text' : List ℕ) → Result ℕ ActRefusal → Type 0
LineOn meaning ask number before after text text' (Ok written) = Made meaning ask number before after text text' written
LineOn meaning ask number before after text text' (Err Short) = (length text < 24) × (after ≡ before) × (text' ≡ text)
LineOn meaning ask number before after text text' (Err NoPlace) = ⊥
LineOn meaning ask number before after text text' (Err (Lay r)) = ⊥
LineOn meaning ask number before after text text' (Err (Undo r)) = ⊥
