-- Two files that hold the same are the same.
use Rattle.std.proofs.Common.{◌≡◌, ℕ, ◌+◌, ◌-◌, ◌*◌, ◌/◌, ◌%◌, ◌<◌, List, [], length, get_or, sym, ap, ◌∙◌, subst, ⊎_elim, arith}
use Rattle.std.proofs.lemmas.List.{ext_get_or}
use Rattle.std.proofs.lemmas.Bool.{cases_lt, cases_eq}
use Rattle.blocks.specs.Bytes.{byte_at}
use Rattle.blocks.specs.Block.{block_of, record_of}
use Rattle.layout.specs.Places.{blocks_for, filled, signs_start, acts_start, record_at}
use Rattle.jobfile.specs.Contents.{Contents}
use Rattle.jobfile.specs.Format.{FileFor}
use Rattle.format.specs.Theorems.{Bytes}
use Rattle.blocks.proofs.Parts.{part_at_byte}
use Rattle.format.proofs.Same.{bytes_part, head_same, part_same, sign_same, act_same, block_same}

-- the record r of the block q of a kind that begins with the block `start`
record_in : (file : List ℕ) (start q r : ℕ) → r < 16 → record_at file start (16 * q + r) ≡ record_of (block_of file (start + q)) r
record_in file start q r h =
    let at : (16 * q + r) / 16 ≡ q = omega arith in
    let in' : (16 * q + r) % 16 ≡ r = omega arith in
    ap (λ (k : ℕ). record_of (block_of file (start + k)) ((16 * q + r) % 16)) at ∙ ap (λ (k : ℕ). record_of (block_of file (start + q)) k) in'

module _ (file other : List ℕ) (c : Contents) (n m : ℕ) (a : Bytes file) (b : Bytes other) (f : FileFor file c n m) (g : FileFor other c n m) where
  block_bytes : (xs : List ℕ) → Bytes xs → (i : ℕ) → Bytes (block_of xs i)
  block_bytes xs h i = bytes_part 512 (512 * i) xs h

  record_bytes : (xs : List ℕ) → Bytes xs → (i r : ℕ) → Bytes (record_of (block_of xs i) r)
  record_bytes xs h i r = bytes_part 30 (4 + 30 * r) (block_of xs i) (block_bytes xs h i)

  head_block : block_of file 0 ≡ block_of other 0
  head_block =
      block_same 74 0 1 _ _ (block_bytes file a 0) (block_bytes other b 0) (omega arith) f.head g.head (λ r h. let at : 0 ≡ r = omega arith in subst (λ (k : ℕ). record_of (block_of file 0) k ≡ record_of (block_of other 0) k) at (head_same n m c.lo c.hi _ _ f.head_held g.head_held))

  part_block : (q : ℕ) → q < blocks_for n → block_of file (1 + q) ≡ block_of other (1 + q)
  part_block q h =
      block_same 80 (1 + q) (filled n q) _ _ (block_bytes file a (1 + q)) (block_bytes other b (1 + q)) (omega arith) (f.part_blocks q h) (g.part_blocks q h) (λ r l.
      let small : r < 16 = omega arith in
      let inside : 16 * q + r < n = omega arith in
      sym (record_in file 1 q r small) ∙ part_same _ _ _ _ (record_bytes file a (1 + (16 * q + r) / 16) ((16 * q + r) % 16)) (record_bytes other b (1 + (16 * q + r) / 16) ((16 * q + r) % 16)) (f.parts_held (16 * q + r) inside) (g.parts_held (16 * q + r) inside) ∙ record_in other 1 q r small)

  sign_block : (q : ℕ) → q < blocks_for m → block_of file (signs_start n + q) ≡ block_of other (signs_start n + q)
  sign_block q h =
      block_same 83 (signs_start n + q) (filled m q) _ _ (block_bytes file a (signs_start n + q)) (block_bytes other b (signs_start n + q)) (omega arith) (f.sign_blocks q h) (g.sign_blocks q h) (λ r l.
      let small : r < 16 = omega arith in
      let inside : 16 * q + r < m = omega arith in
      sym (record_in file (signs_start n) q r small) ∙ sign_same _ _ _ _ (f.signs_held (16 * q + r) inside) (g.signs_held (16 * q + r) inside) ∙ record_in other (signs_start n) q r small)

  act_block : (k : ℕ) → k < length c.acts → block_of file (acts_start n m + k) ≡ block_of other (acts_start n m + k)
  act_block k h =
      block_same 65 (acts_start n m + k) (length (get_or c.acts k [])) _ _ (block_bytes file a (acts_start n m + k)) (block_bytes other b (acts_start n m + k)) (f.act_blocks k h).few (f.act_blocks k h).block (g.act_blocks k h).block (λ r l. act_same _ _ _ ((f.act_blocks k h).held r l) ((g.act_blocks k h).held r l))

  any_block : (i : ℕ) → i < acts_start n m + length c.acts → block_of file i ≡ block_of other i
  any_block i h =
      let Same : ℕ → Type 0 = λ k. block_of file k ≡ block_of other k in
      ⊎_elim (λ z. subst Same (sym z) head_block) (λ some.
      ⊎_elim (λ l. let e : 1 + (i - 1) ≡ i = omega arith in subst Same e (part_block (i - 1) (omega arith))) (λ u.
      ⊎_elim (λ l. let e : signs_start n + (i - signs_start n) ≡ i = omega arith in subst Same e (sign_block (i - signs_start n) (omega arith))) (λ v.
      let e : acts_start n m + (i - acts_start n m) ≡ i = omega arith in subst Same e (act_block (i - acts_start n m) (omega arith)))
      (cases_lt i (acts_start n m)))
      (cases_lt i (signs_start n)))
      (cases_eq i 0)

  pub same_file : file ≡ other
  same_file =
      ext_get_or 0 file other (f.long ∙ sym g.long) (λ i h.
      let at : 512 * (i / 512) + i % 512 ≡ i = omega arith in
      let k : i % 512 < 512 = omega arith in
      let inside : i / 512 < acts_start n m + length c.acts = omega (arith, f.long) in
      subst (λ (j : ℕ). byte_at file j ≡ byte_at other j) at (sym (part_at_byte 512 (512 * (i / 512)) file (i % 512) k) ∙ ap (λ (block : List ℕ). byte_at block (i % 512)) (any_block (i / 512) inside) ∙ part_at_byte 512 (512 * (i / 512)) other (i % 512) k))
