-- The whole file of a job without acts.
use Rattle.std.proofs.Common.{◌≡◌, ℕ, zero, suc, ◌+◌, ◌-◌, ◌*◌, ◌/◌, ◌%◌, ◌<◌, ◌≤◌, eqb, ltb, List, [], map, length, get_or, sym, refl, ap, ◌∙◌, subst, ⊎_elim, arith, length-drop, length-take}
use Rattle.std.specs.List.{range_with_len}
use Rattle.std.proofs.lemmas.Nat.{mod_below}
use Rattle.std.proofs.lemmas.List.FromFn.{length-map-range_with_len, get_or-map-range_with_len}
use Rattle.std.proofs.lemmas.List.{get_or_past}
use Rattle.std.proofs.lemmas.Bool.{cases_lt, cases_eq, cond_both}
use Rattle.series.specs.Load.{no_record}
use Rattle.series.specs.Sound.{no_sign}
use Rattle.series.specs.declared.records.PartRecord.{PartRecord}
use Rattle.series.specs.declared.records.SignRecord.{SignRecord}
use Rattle.blocks.specs.Bytes.{byte_at}
use Rattle.blocks.specs.Block.{block_of}
use Rattle.records.specs.Records.{PartBytes, SignBytes}
use Rattle.layout.specs.Places.{blocks_for, filled, parts_start, signs_start, acts_start, record_at}
use Rattle.layout.specs.Kinds.{kind_of}
use Rattle.layout.specs.declared.kind.Kind.{Kind}
use Rattle.layout.specs.declared.kind.Kind.TheVariants.{Head, Parts, Signs, Acts}
use Rattle.layout.proofs.BlockKinds.{StandsAmong, kind_is}
use Rattle.jobfile.specs.Contents.{Contents}
use Rattle.jobfile.specs.Format.{FileOf}
use Rattle.format.specs.Theorems.{Bytes, GoodLabel, Writable}
use Rattle.blocks.proofs.Parts.{part_at_byte}
use Rattle.format.proofs.Written.{Given, digit, label_byte, head_byte, part_byte, sign_byte, head_written, part_written, sign_written}
use Rattle.format.proofs.Blocks.{block_byte, block_written, record_given, record_long, block_small}

-- Bytes of labels and records are bytes.
label_small : (size : ℕ) (label : List ℕ) → size < 256 → GoodLabel size label → (k : ℕ) → label_byte label k < 256
label_small size label h good k =
    let l = good.fits in
    let Small : ℕ → Type 0 = λ v. v < 256 in
    cond_both (eqb k 0) _ _ Small (λ _. omega arith) (λ _. ⊎_elim (λ i. omega (arith, (good.letters (k - 1) i).1)) (λ g. subst Small (sym (get_or_past label (k - 1) 0 g)) (omega arith)) (cases_lt (k - 1) (length label)))

digit_small : (k v : ℕ) → digit k v < 256
digit_small zero v = mod_below v 256 (omega arith)
digit_small (suc k) v = digit_small k (v / 256)

head_small : (n m lo hi k : ℕ) → n < 256 → m < 256 → lo < 256 → hi < 256 → head_byte n m lo hi k < 256
head_small n m lo hi k a b c d =
    let Small : ℕ → Type 0 = λ v. v < 256 in
    cond_both (eqb k 0) _ _ Small (λ _. a) (λ _. cond_both (eqb k 1) _ _ Small (λ _. b) (λ _. cond_both (eqb k 2) _ _ Small (λ _. c) (λ _. cond_both (eqb k 3) _ _ Small (λ _. d) (λ _. omega arith))))

part_small : (part : PartRecord) (name : List ℕ) (k : ℕ) → GoodLabel 20 name → part.standing < 256 → part_byte part name k < 256
part_small part name k good h =
    let Small : ℕ → Type 0 = λ v. v < 256 in
    cond_both (ltb k 21) _ _ Small (λ _. label_small 20 name (omega arith) good k) (λ _. cond_both (eqb k 21) _ _ Small (λ _. h) (λ _. digit_small (29 - k) part.mask))

sign_small : (sign : SignRecord) (text : List ℕ) (k : ℕ) → GoodLabel 8 text → sign.least < 256 → sign.most < 256 → sign_byte sign text k < 256
sign_small sign text k good a b =
    let Small : ℕ → Type 0 = λ v. v < 256 in
    cond_both (ltb k 9) _ _ Small (λ _. label_small 8 text (omega arith) good k) (λ _. cond_both (eqb k 9) _ _ Small (λ _. a) (λ _. cond_both (eqb k 10) _ _ Small (λ _. b) (λ _. omega arith)))

module _ (c : Contents) where
  -- the byte k of the record of part p, of sign s
  abbrev part_of : ℕ → ℕ → ℕ
  part_of p k = part_byte (get_or c.parts p no_record) (get_or c.labels.names p []) k

  abbrev sign_of : ℕ → ℕ → ℕ
  sign_of s k = sign_byte (get_or c.signs s no_sign) (get_or c.labels.texts s []) k

  -- the byte k of record r of the head, of the block q of the parts, of that of the signs
  abbrev head_records : ℕ → ℕ → ℕ
  head_records r k = head_byte (length c.parts) (length c.signs) c.lo c.hi k

  abbrev part_records : ℕ → ℕ → ℕ → ℕ
  part_records q r k = part_of (16 * q + r) k

  abbrev sign_records : ℕ → ℕ → ℕ → ℕ
  sign_records q r k = sign_of (16 * q + r) k

  -- the byte j of a block b of a kind; there are no acts
  abbrev byte_of : Kind → ℕ → ℕ → ℕ
  byte_of Head b = block_byte 74 b 1 head_records
  byte_of Parts b = block_byte 80 b (filled (length c.parts) (b - 1)) (part_records (b - 1))
  byte_of Signs b = block_byte 83 b (filled (length c.signs) (b - signs_start (length c.parts))) (sign_records (b - signs_start (length c.parts)))
  byte_of Acts b = λ j. 0

  abbrev file_byte : ℕ → ℕ → ℕ
  file_byte b j = byte_of (kind_of (length c.parts) (length c.signs) b) b j

  pub whole_file : List ℕ
  whole_file = map (λ i. file_byte (i / 512) (i % 512)) (range_with_len 0 (512 * acts_start (length c.parts) (length c.signs)))

  whole_long : length whole_file ≡ 512 * acts_start (length c.parts) (length c.signs)
  unfolding whole_file
  whole_long = length-map-range_with_len (λ i. file_byte (i / 512) (i % 512)) 0 (512 * acts_start (length c.parts) (length c.signs))

  whole_at : (i : ℕ) → i < 512 * acts_start (length c.parts) (length c.signs) → byte_at whole_file i ≡ file_byte (i / 512) (i % 512)
  unfolding whole_file
  whole_at i h = get_or-map-range_with_len (λ i. file_byte (i / 512) (i % 512)) 0 (512 * acts_start (length c.parts) (length c.signs)) i i 0 h (omega arith)

  block_long : (b : ℕ) → b < acts_start (length c.parts) (length c.signs) → length (block_of whole_file b) ≡ 512
  block_long b h = simp (length-take, length-drop) (omega (arith, whole_long))

  block_given : (b : ℕ) → b < acts_start (length c.parts) (length c.signs) → Given 512 (block_of whole_file b) (file_byte b)
  block_given b h j l =
      let row : (512 * b + j) / 512 ≡ b = omega arith in
      let col : (512 * b + j) % 512 ≡ j = omega arith in
      part_at_byte 512 (512 * b) whole_file j l ∙ whole_at (512 * b + j) (omega arith) ∙ ap (λ (q : ℕ). file_byte q ((512 * b + j) % 512)) row ∙ ap (file_byte b) col

module _ (c : Contents) (w : Writable c) where
  head_given : Given 512 (block_of (whole_file c) 0) (block_byte 74 0 1 (head_records c))
  head_given = block_given c 0 (omega arith)

  -- the bytes of a block of a kind
  given_as : (k : Kind) (b : ℕ) → b < acts_start (length c.parts) (length c.signs) → StandsAmong k (length c.parts) (length c.signs) b → Given 512 (block_of (whole_file c) b) (byte_of c k b)
  given_as k b h stands = subst (λ (x : Kind). Given 512 (block_of (whole_file c) b) (byte_of c x b)) (kind_is k (length c.parts) (length c.signs) b stands) (block_given c b h)

  part_given : (q : ℕ) → q < blocks_for (length c.parts) → Given 512 (block_of (whole_file c) (1 + q)) (block_byte 80 (1 + q) (filled (length c.parts) q) (part_records c q))
  part_given q h =
      let back : 1 + q - 1 ≡ q = omega arith in
      subst (λ (p : ℕ). Given 512 (block_of (whole_file c) (1 + q)) (block_byte 80 (1 + q) (filled (length c.parts) p) (part_records c p))) back (given_as Parts (1 + q) (omega arith) (omega arith, omega arith))

  sign_given : (q : ℕ) → q < blocks_for (length c.signs) → Given 512 (block_of (whole_file c) (signs_start (length c.parts) + q)) (block_byte 83 (signs_start (length c.parts) + q) (filled (length c.signs) q) (sign_records c q))
  sign_given q h =
      let at = signs_start (length c.parts) + q in
      let back : signs_start (length c.parts) + q - signs_start (length c.parts) ≡ q = omega arith in
      subst (λ (s : ℕ). Given 512 (block_of (whole_file c) at) (block_byte 83 at (filled (length c.signs) s) (sign_records c s))) back (given_as Signs at (omega arith) (omega arith, omega arith))

  part_held : (p : ℕ) → p < length c.parts → PartBytes (get_or c.parts p no_record) (get_or c.labels.names p []) (record_at (whole_file c) parts_start p)
  part_held p h =
      let q : p / 16 < blocks_for (length c.parts) = omega arith in
      let r : p % 16 < filled (length c.parts) (p / 16) = omega arith in
      let few : filled (length c.parts) (p / 16) ≤ 16 = omega arith in
      let at : 16 * (p / 16) + p % 16 ≡ p = omega arith in
      let long = block_long c (1 + p / 16) (omega arith) in
      part_written _ _ _ (w.name_fits p h) (w.mask p h) (record_long 80 (1 + p / 16) (filled (length c.parts) (p / 16)) (part_records c (p / 16)) (block_of (whole_file c) (1 + p / 16)) few long (part_given (p / 16) q) (p % 16) r)
      (λ k l. record_given 80 (1 + p / 16) (filled (length c.parts) (p / 16)) (part_records c (p / 16)) (block_of (whole_file c) (1 + p / 16)) few long (part_given (p / 16) q) (p % 16) r k l ∙ ap (λ (i : ℕ). part_of c i k) at)

  sign_is_held : (s : ℕ) → s < length c.signs → SignBytes (get_or c.signs s no_sign) (get_or c.labels.texts s []) (record_at (whole_file c) (signs_start (length c.parts)) s)
  sign_is_held s h =
      let start = signs_start (length c.parts) in
      let q : s / 16 < blocks_for (length c.signs) = omega arith in
      let r : s % 16 < filled (length c.signs) (s / 16) = omega arith in
      let few : filled (length c.signs) (s / 16) ≤ 16 = omega arith in
      let at : 16 * (s / 16) + s % 16 ≡ s = omega arith in
      let long = block_long c (signs_start (length c.parts) + s / 16) (omega arith) in
      sign_written _ _ _ (w.text_fits s h) (record_long 83 (signs_start (length c.parts) + s / 16) (filled (length c.signs) (s / 16)) (sign_records c (s / 16)) (block_of (whole_file c) (signs_start (length c.parts) + s / 16)) few long (sign_given (s / 16) q) (s % 16) r)
      (λ k l. record_given 83 (signs_start (length c.parts) + s / 16) (filled (length c.signs) (s / 16)) (sign_records c (s / 16)) (block_of (whole_file c) (signs_start (length c.parts) + s / 16)) few long (sign_given (s / 16) q) (s % 16) r k l ∙ ap (λ (i : ℕ). sign_of c i k) at)

  no_acts_hold : length c.acts ≡ 0
  no_acts_hold = ap length w.no_acts

  pub whole_file_is : FileOf (whole_file c) c
  whole_file_is = record {
    parts = refl;
    names = w.names;
    signs = refl;
    texts = w.texts;
    few_parts = w.few_parts;
    few_signs = w.few_signs;
    few_acts = omega (arith, no_acts_hold);
    long = omega (arith, whole_long c, no_acts_hold);
    head = block_written 74 0 1 (head_records c) (block_of (whole_file c) 0) (omega arith) (block_long c 0 (omega arith)) head_given;
    head_held = head_written (length c.parts) (length c.signs) c.lo c.hi _ (record_long 74 0 1 (head_records c) (block_of (whole_file c) 0) (omega arith) (block_long c 0 (omega arith)) head_given 0 (omega arith)) (record_given 74 0 1 (head_records c) (block_of (whole_file c) 0) (omega arith) (block_long c 0 (omega arith)) head_given 0 (omega arith));
    part_blocks = λ q h. block_written 80 (1 + q) (filled (length c.parts) q) (part_records c q) (block_of (whole_file c) (1 + q)) (omega arith) (block_long c (1 + q) (omega arith)) (part_given q h);
    parts_held = part_held;
    sign_blocks = λ q h. block_written 83 (signs_start (length c.parts) + q) (filled (length c.signs) q) (sign_records c q) (block_of (whole_file c) (signs_start (length c.parts) + q)) (omega arith) (block_long c (signs_start (length c.parts) + q) (omega arith)) (sign_given q h);
    signs_held = sign_is_held;
    apart = w.apart;
    act_blocks = λ a h. absurd (none (length c.acts) a no_acts_hold h);
  }
    where
      none : (n a : ℕ) → n ≡ 0 → a < n → ⊥
      none n a e h = omega arith

  head_bytes : (j : ℕ) → block_byte 74 0 1 (head_records c) j < 256
  head_bytes = block_small 74 0 1 (head_records c) (omega arith) (omega arith) (omega arith) (λ r k h. head_small _ _ _ _ k (omega (arith, w.few_parts)) (omega (arith, w.few_signs)) w.lo w.hi)

  part_bytes : (q : ℕ) → q < blocks_for (length c.parts) → (j : ℕ) → block_byte 80 (1 + q) (filled (length c.parts) q) (part_records c q) j < 256
  part_bytes q h =
      let few = w.few_parts in
      block_small 80 (1 + q) (filled (length c.parts) q) (part_records c q) (omega arith) (omega arith) (omega arith) (λ r k l.
      let inside : 16 * q + r < length c.parts = omega arith in
      part_small _ _ k (w.name_fits (16 * q + r) inside) (w.standing (16 * q + r) inside))

  sign_bytes : (q : ℕ) → q < blocks_for (length c.signs) → (j : ℕ) → block_byte 83 (signs_start (length c.parts) + q) (filled (length c.signs) q) (sign_records c q) j < 256
  sign_bytes q h =
      let few = w.few_parts in
      let less = w.few_signs in
      block_small 83 (signs_start (length c.parts) + q) (filled (length c.signs) q) (sign_records c q) (omega arith) (omega arith) (omega arith) (λ r k l.
      let inside : 16 * q + r < length c.signs = omega arith in
      sign_small _ _ k (w.text_fits (16 * q + r) inside) (w.least (16 * q + r) inside) (w.most (16 * q + r) inside))

  block_bytes : (b : ℕ) → b < acts_start (length c.parts) (length c.signs) → (j : ℕ) → j < 512 → byte_at (block_of (whole_file c) b) j < 256
  block_bytes b h j l =
      let Small : ℕ → Type 0 = λ k. byte_at (block_of (whole_file c) k) j < 256 in
      let Byte : ℕ → Type 0 = λ v. v < 256 in
      ⊎_elim (λ z. subst Small (sym z) (subst Byte (sym (head_given j l)) (head_bytes j))) (λ some.
      ⊎_elim (λ u. let e : 1 + (b - 1) ≡ b = omega arith in let q : b - 1 < blocks_for (length c.parts) = omega arith in subst Small e (subst Byte (sym (part_given (b - 1) q j l)) (part_bytes (b - 1) q j)))
      (λ v. let e : signs_start (length c.parts) + (b - signs_start (length c.parts)) ≡ b = omega arith in let q : b - signs_start (length c.parts) < blocks_for (length c.signs) = omega arith in subst Small e (subst Byte (sym (sign_given (b - signs_start (length c.parts)) q j l)) (sign_bytes (b - signs_start (length c.parts)) q j)))
      (cases_lt b (signs_start (length c.parts))))
      (cases_eq b 0)

  pub whole_bytes : Bytes (whole_file c)
  whole_bytes i =
      let Byte : ℕ → Type 0 = λ v. v < 256 in
      ⊎_elim (λ h.
      let at : 512 * (i / 512) + i % 512 ≡ i = omega arith in
      let j : i % 512 < 512 = omega arith in
      subst (λ (k : ℕ). byte_at (whole_file c) k < 256) at (subst Byte (part_at_byte 512 (512 * (i / 512)) (whole_file c) (i % 512) j) (block_bytes (i / 512) (omega arith) (i % 512) j)))
      (λ g. subst Byte (sym (get_or_past (whole_file c) i 0 (omega (arith, whole_long c)))) (omega arith))
      (cases_lt i (512 * acts_start (length c.parts) (length c.signs)))
