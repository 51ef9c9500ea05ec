-- The bytes of a file without acts, each given by its place, and that they are the file of the job.
use Rattle.std.proofs.Common.{◌≡◌, ℕ, zero, suc, ◌+◌, ◌-◌, ◌*◌, ◌/◌, ◌%◌, ◌^◌, ◌<◌, ◌≤◌, cond, eqb, ltb, List, length, ap, ◌∙◌, subst, arith}
use Rattle.std.proofs.lemmas.List.{get_or_past}
use Rattle.std.proofs.lemmas.Bool.{lt-ltb, le-ltb, ne_eqb, cond-true, cond-false}
use Rattle.blocks.specs.Bytes.{byte_at}
use Rattle.series.specs.declared.records.PartRecord.{PartRecord}
use Rattle.series.specs.declared.records.SignRecord.{SignRecord}
use Rattle.records.specs.Records.{Label, HeadBytes, PartBytes, SignBytes}
use Rattle.format.specs.Theorems.{GoodLabel}

-- the digit k of a number in base 256, counted from the lowest
abbrev pub digit : ℕ → ℕ → ℕ
digit zero v = v % 256
digit (suc k) v = digit k (v / 256)

-- The byte k of a record.
abbrev pub label_byte : List ℕ → ℕ → ℕ
label_byte label k = cond (eqb k 0) (length label) (byte_at label (k - 1))

abbrev pub head_byte : (n m lo hi k : ℕ) → ℕ
head_byte n m lo hi k = cond (eqb k 0) n (cond (eqb k 1) m (cond (eqb k 2) lo (cond (eqb k 3) hi 0)))

abbrev pub part_byte : PartRecord → List ℕ → ℕ → ℕ
part_byte part name k = cond (ltb k 21) (label_byte name k) (cond (eqb k 21) part.standing (digit (29 - k) part.mask))

abbrev pub sign_byte : SignRecord → List ℕ → ℕ → ℕ
sign_byte sign text k = cond (ltb k 9) (label_byte text k) (cond (eqb k 9) sign.least (cond (eqb k 10) sign.most 0))

-- the bytes of x are given by their place
abbrev pub Given : ℕ → List ℕ → (ℕ → ℕ) → Type 0
Given n x f = (k : ℕ) → k < n → byte_at x k ≡ f k

label_byte_is : (label : List ℕ) (i : ℕ) → label_byte label (1 + i) ≡ byte_at label i
label_byte_is label i = let back : 1 + i - 1 ≡ i = omega arith in cond-false (eqb (1 + i) 0) _ _ (ne_eqb (1 + i) 0 (λ z. omega arith)) ∙ ap (byte_at label) back

label_written : (size : ℕ) (label x : List ℕ) → GoodLabel size label → Given (1 + size) x (label_byte label) → Label size label x
label_written size label x good given = record {
  some = good.some;
  fits = good.fits;
  told = given 0 (omega arith);
  held = λ i h. let l = good.fits in given (1 + i) (omega arith) ∙ label_byte_is label i;
  letters = good.letters;
  padded = λ i l h. let at : 1 + (i - 1) ≡ i = omega arith in subst (λ (k : ℕ). byte_at x k ≡ 0) at (given (1 + (i - 1)) (omega arith) ∙ label_byte_is label (i - 1) ∙ get_or_past label (i - 1) 0 (omega arith));
}

pub head_written : (n m lo hi : ℕ) (x : List ℕ) → length x ≡ 30 → Given 30 x (head_byte n m lo hi) → HeadBytes n m lo hi x
head_written n m lo hi x long given = record {
  long = long;
  parts = given 0 (omega arith);
  signs = given 1 (omega arith);
  least = given 2 (omega arith);
  most = given 3 (omega arith);
  rest = λ i l h. given i h ∙ cond-false (eqb i 0) _ _ (ne_eqb i 0 (λ z. omega arith)) ∙ cond-false (eqb i 1) _ _ (ne_eqb i 1 (λ z. omega arith)) ∙ cond-false (eqb i 2) _ _ (ne_eqb i 2 (λ z. omega arith)) ∙ cond-false (eqb i 3) _ _ (ne_eqb i 3 (λ z. omega arith));
}

-- the front of a record is its label
front_label : (size : ℕ) (label x : List ℕ) (f : ℕ → ℕ) → 1 + size ≤ 30 → Given 30 x (λ k. cond (ltb k (1 + size)) (label_byte label k) (f k)) → Given (1 + size) x (label_byte label)
front_label size label x f fits given k h = given k (omega arith) ∙ cond-true (ltb k (1 + size)) _ _ (lt-ltb k (1 + size) h)

mask_written : (v : ℕ) → v < 2 ^ 64 → (((((((0 * 256 + digit 7 v) * 256 + digit 6 v) * 256 + digit 5 v) * 256 + digit 4 v) * 256 + digit 3 v) * 256 + digit 2 v) * 256 + digit 1 v) * 256 + digit 0 v ≡ v
mask_written v h = omega arith

pub part_written : (part : PartRecord) (name x : List ℕ) → GoodLabel 20 name → part.mask < 2 ^ 64 → length x ≡ 30 → Given 30 x (part_byte part name) → PartBytes part name x
part_written part name x good small long given = record {
  long = long;
  label = label_written 20 name x good (front_label 20 name x (λ k. cond (eqb k 21) part.standing (digit (29 - k) part.mask)) (omega arith) given);
  standing = given 21 (omega arith);
  mask =
      let a = given 22 (omega arith) in
      let b = given 23 (omega arith) in
      let c = given 24 (omega arith) in
      let d = given 25 (omega arith) in
      let e = given 26 (omega arith) in
      let f = given 27 (omega arith) in
      let g = given 28 (omega arith) in
      let h = given 29 (omega arith) in
      let v = mask_written part.mask small in
      omega arith;
}

pub sign_written : (sign : SignRecord) (text x : List ℕ) → GoodLabel 8 text → length x ≡ 30 → Given 30 x (sign_byte sign text) → SignBytes sign text x
sign_written sign text x good long given = record {
  long = long;
  label = label_written 8 text x good (front_label 8 text x (λ k. cond (eqb k 9) sign.least (cond (eqb k 10) sign.most 0)) (omega arith) given);
  least = given 9 (omega arith);
  most = given 10 (omega arith);
  rest = λ i l h. given i h ∙ cond-false (ltb i 9) _ _ (le-ltb i 9 (omega arith)) ∙ cond-false (eqb i 9) _ _ (ne_eqb i 9 (λ z. omega arith)) ∙ cond-false (eqb i 10) _ _ (ne_eqb i 10 (λ z. omega arith));
}
