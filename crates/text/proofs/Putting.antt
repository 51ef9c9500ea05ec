-- Bytes put one behind the other, in a list over lent places.
use Rattle.std.proofs.Common.{◌≡◌, ℕ, ◌+◌, ◌^◌, ◌<◌, ◌≤◌, List, ◌++◌, length, decimal, ◌∙◌, arith}
use Rattle.std.proofs.lemmas.Fmt.{length-decimal-le}
use Rattle.buffers.specs.declared.places.Places.{Places}
use Rattle.text.specs.Placed.{Placed}
use Rattle.text.specs.Puts.{Puts, room}
use Rattle.text.proofs.Places.{length_after, placed_then}

pub puts_then : {t u v : Places ℕ} {xs ys : List ℕ} → Puts t xs u → Puts u ys v → Puts t (xs ++ ys) v
puts_then p q = record { lent = q.lent ∙ p.lent; placed = placed_then p.placed q.placed }

-- the room that is left
pub room_after : {t u : Places ℕ} {xs : List ℕ} → Puts t xs u → room u + length xs ≡ room t
room_after p = omega (arith, length_after p.placed, p.placed.end, p.placed.room)

-- what was put into an empty text stands at the front of the lent bytes when they are back
pub puts_front : {lent back xs : List ℕ} {t u : Places ℕ} {written : ℕ} → Puts t xs u → t.len ≡ 0 → t.cells.now ≡ lent → back ≡ u.cells.now → written ≡ u.len
    → Placed lent 0 xs back written
puts_front p empty kept back told = rw (← kept, ← empty, back, told) p.placed

-- a number of 64 bits has at most 20 digits, and one below 100 at most 2
pub digits_long : (n : ℕ) → n < 2 ^ 64 → length (decimal n) ≤ 20
digits_long n fits = length-decimal-le 20 n (omega arith) (omega arith) fits

pub digits_short : (n : ℕ) → n < 100 → length (decimal n) ≤ 2
digits_short n small = length-decimal-le 2 n (omega arith) small (omega arith)
