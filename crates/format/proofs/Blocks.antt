-- A block whose bytes are given by their place.
use Rattle.std.proofs.Common.{◌≡◌, ℕ, ◌+◌, ◌-◌, ◌*◌, ◌/◌, ◌%◌, ◌<◌, ◌≤◌, false, cond, eqb, ltb, List, map, length, sym, ap, ◌∙◌, arith, length-drop, length-take}
use Rattle.std.specs.List.{range_with_len}
use Rattle.std.proofs.lemmas.List.FromFn.{get_or-map-range_with_len}
use Rattle.std.proofs.lemmas.Bool.{lt-ltb, le-ltb, ne_eqb, cond-true, cond-false, cond_both, ltb-true, eqb-false}
use Rattle.blocks.specs.Bytes.{byte_at}
use Rattle.blocks.specs.Block.{Block, check_of, record_of}
use Rattle.blocks.proofs.Parts.{part_at_byte}
use Rattle.format.proofs.Same.{check_same, check_small}
use Rattle.format.proofs.Written.{Given}

-- The byte j of the first 510, where rec r k is the byte k of record r.
abbrev pub body_byte : (kind place count : ℕ) → (ℕ → ℕ → ℕ) → ℕ → ℕ
body_byte kind place count rec j =
    cond (eqb j 0) kind (cond (eqb j 1) count (cond (eqb j 2) (place / 256) (cond (eqb j 3) (place % 256) (cond (ltb j (4 + 30 * count)) (rec ((j - 4) / 30) ((j - 4) % 30)) 0))))

-- the check of these bytes
pub body_check : (ℕ → ℕ) → ℕ
body_check f = check_of (map f (range_with_len 0 510))

abbrev pub block_byte : (kind place count : ℕ) → (ℕ → ℕ → ℕ) → ℕ → ℕ
block_byte kind place count rec j =
    cond (ltb j 510) (body_byte kind place count rec j) (cond (eqb j 510) (body_check (body_byte kind place count rec) / 256) (body_check (body_byte kind place count rec) % 256))

body_check_is : (x : List ℕ) (f : ℕ → ℕ) → Given 510 x f → check_of x ≡ body_check f
unfolding body_check
body_check_is x f given = check_same x (map f (range_with_len 0 510)) (λ p h. given p h ∙ sym (get_or-map-range_with_len f 0 510 p p 0 h (omega arith)))

pub body_check_small : (f : ℕ → ℕ) → body_check f < 65521
unfolding body_check
body_check_small f = check_small (map f (range_with_len 0 510))

module _ (kind place count : ℕ) (rec : ℕ → ℕ → ℕ) (x : List ℕ) (few : count ≤ 16) (long : length x ≡ 512) (given : Given 512 x (block_byte kind place count rec)) where
  body : Given 510 x (body_byte kind place count rec)
  body j h = given j (omega arith) ∙ cond-true (ltb j 510) _ _ (lt-ltb j 510 h)

  behind : (j : ℕ) → 4 ≤ j → j < 510 → byte_at x j ≡ cond (ltb j (4 + 30 * count)) (rec ((j - 4) / 30) ((j - 4) % 30)) 0
  behind j l h = body j h ∙ cond-false (eqb j 0) _ _ (ne_eqb j 0 (λ z. omega arith)) ∙ cond-false (eqb j 1) _ _ (ne_eqb j 1 (λ z. omega arith)) ∙ cond-false (eqb j 2) _ _ (ne_eqb j 2 (λ z. omega arith)) ∙ cond-false (eqb j 3) _ _ (ne_eqb j 3 (λ z. omega arith))

  pub block_written : Block kind place count count x
  block_written =
      let f = body_byte kind place count rec in
      let high : byte_at x 510 ≡ body_check (body_byte kind place count rec) / 256 = given 510 (omega arith) in
      let low : byte_at x 511 ≡ body_check (body_byte kind place count rec) % 256 = given 511 (omega arith) in
      let is : byte_at x 1 ≡ count = body 1 (omega arith) in
      let two : byte_at x 2 ≡ place / 256 = body 2 (omega arith) in
      let three : byte_at x 3 ≡ place % 256 = body 3 (omega arith) in
      record {
        check = let e = body_check_is x (body_byte kind place count rec) body in omega (arith, high, low, e);
        laid = record {
          long = long;
          kind = body 0 (omega arith);
          some = omega (arith, is);
          few = omega (arith, is);
          place = omega (arith, two, three);
          rest = λ j l h. behind j (omega (arith, is)) h ∙ cond-false (ltb j (4 + 30 * count)) _ _ (le-ltb j (4 + 30 * count) (omega (arith, is)));
        };
      }

  pub record_given : (r : ℕ) → r < count → Given 30 (record_of x r) (rec r)
  record_given r h k l =
      let j = 4 + 30 * r + k in
      let row : (4 + 30 * r + k - 4) / 30 ≡ r = omega arith in
      let col : (4 + 30 * r + k - 4) % 30 ≡ k = omega arith in
      part_at_byte 30 (4 + 30 * r) x k l ∙ behind (4 + 30 * r + k) (omega arith) (omega arith) ∙ cond-true (ltb (4 + 30 * r + k) (4 + 30 * count)) _ _ (lt-ltb (4 + 30 * r + k) (4 + 30 * count) (omega arith)) ∙ ap (λ (q : ℕ). rec q ((4 + 30 * r + k - 4) % 30)) row ∙ ap (rec r) col

  pub record_long : (r : ℕ) → r < count → length (record_of x r) ≡ 30
  record_long r h = simp (length-take, length-drop) (omega (arith, long))

past_three : (j : ℕ) → eqb j 0 ≡ false → eqb j 1 ≡ false → eqb j 2 ≡ false → eqb j 3 ≡ false → 4 ≤ j
past_three j z o w t =
    let a = eqb-false j 0 z in
    let b = eqb-false j 1 o in
    let c = eqb-false j 2 w in
    let d = eqb-false j 3 t in
    omega arith

-- the row of a place among the records; where there is no record the place is before the first
rows : (j count : ℕ) → 4 ≤ j → j < 4 + 30 * count → (j - 4) / 30 < count
rows j count l h = omega arith

-- every byte of such a block is one
pub block_small : (kind place count : ℕ) (rec : ℕ → ℕ → ℕ) → kind < 256 → place < 65536 → count ≤ 16 → ((r k : ℕ) → r < count → rec r k < 256) → (j : ℕ) → block_byte kind place count rec j < 256
block_small kind place count rec a b few small j =
    let Small : ℕ → Type 0 = λ v. v < 256 in
    let check = body_check_small (body_byte kind place count rec) in
    cond_both (ltb j 510) _ _ Small (λ _.
    cond_both (eqb j 0) _ _ Small (λ _. a) (λ z.
    cond_both (eqb j 1) _ _ Small (λ _. omega arith) (λ o.
    cond_both (eqb j 2) _ _ Small (λ _. omega arith) (λ w.
    cond_both (eqb j 3) _ _ Small (λ _. omega arith) (λ e.
    cond_both (ltb j (4 + 30 * count)) _ _ Small (λ t. let below = ltb-true j (4 + 30 * count) t in small _ _ (rows j count (past_three j z o w e) below)) (λ _. omega arith))))))
    (λ _. cond_both (eqb j 510) _ _ Small (λ _. omega arith) (λ _. omega arith))
