-- Bytes written into a lent text: they stand from a place on, and the rest is kept.
use Rattle.std.specs.Prelude.{◌≡◌, ℕ, ◌+◌, ◌≤◌, List, ◌++◌, length, take, drop}

-- the text with these bytes from a place on, and its own before and behind them
abbrev pub placed : List ℕ → ℕ → List ℕ → List ℕ
placed text at bytes = take at text ++ (bytes ++ drop (at + length bytes) text)

-- Bytes were put at a place of a text that has room for them, and told is the place behind them.
pub record Placed (before : List ℕ) (at : ℕ) (bytes after : List ℕ) (behind : ℕ) : Type 0 where
  pub text : after ≡ placed before at bytes
  pub end : behind ≡ at + length bytes
  pub room : behind ≤ length before
