-- Bytes put one behind the other.
use Rattle.std.proofs.Common.{◌≡◌, ℕ, ◌+◌, ◌≤◌, List, [], ◌++◌, length, take, drop, sym, ap, ◌∙◌, append_assoc, add-zero, add_assoc, arith}
use Rattle.std.proofs.lemmas.Grind.{common_steps}
use Rattle.std.proofs.lemmas.List.{drop-drop, length-append, take-append-drop, take_at}
use Rattle.text.specs.Placed.{placed, Placed}

length_placed : (t : List ℕ) (at : ℕ) (bytes : List ℕ) → at + length bytes ≤ length t → length (placed t at bytes) ≡ length t
length_placed t at bytes h = grind (arith, common_steps)

-- the text is as long as before
pub length_after : {before : List ℕ} {at : ℕ} {bytes after : List ℕ} {end : ℕ} → Placed before at bytes after end → length after ≡ length before
length_after {before} {at} {bytes} {after} {end} p = ap length p.text ∙ length_placed before at bytes (omega arith)

-- nothing put
pub placed_none : (t : List ℕ) (at : ℕ) → at ≤ length t → Placed t at [] t at
placed_none t at h =
    record { text = sym (ap (λ n. take at t ++ drop n t) (add-zero at) ∙ take-append-drop at t); end = sym (add-zero at); room = h }

-- two writes, the second behind the first, are one
placed_two : (t : List ℕ) (at : ℕ) (xs ys : List ℕ) → at + length xs + length ys ≤ length t → placed (placed t at xs) (at + length xs) ys ≡ placed t at (xs ++ ys)
placed_two t at xs ys room =
    let n = at + length xs in
    let before : take n (placed t at xs) ≡ take at t ++ xs = grind (arith, common_steps) in
    let behind : drop n (placed t at xs) ≡ drop n t = grind (arith, common_steps) in
    rw (before, ← drop-drop (length ys) n, behind, drop-drop, length-append, ← add_assoc) (simp append_assoc)

pub placed_then : {t : List ℕ} {at : ℕ} {xs u : List ℕ} {mid : ℕ} {ys v : List ℕ} {behind : ℕ} → Placed t at xs u mid → Placed u mid ys v behind
    → Placed t at (xs ++ ys) v behind
placed_then {t} {at} {xs} {u} {mid} {ys} {v} {behind} p q =
    let long = length_after p in
    let room : at + length xs + length ys ≤ length t = omega arith in
    record {
      text = q.text ∙ ap (λ z. placed z mid ys) p.text ∙ ap (λ k. placed (placed t at xs) k ys) p.end ∙ placed_two t at xs ys room;
      end = omega (arith, length-append xs ys);
      room = omega arith;
    }

-- what was put at the front of a text stands there
pub placed_front : {t : List ℕ} {bytes u : List ℕ} {behind : ℕ} → Placed t 0 bytes u behind → take behind u ≡ bytes
placed_front {t} {bytes} {u} {behind} p =
    ap (take behind) p.text ∙ take_at bytes (drop (0 + length bytes) t) behind (omega arith)
