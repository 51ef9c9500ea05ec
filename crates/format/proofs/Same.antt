-- Bytes that hold the same are the same: numbers, records, blocks.
use Rattle.std.proofs.Common.{◌≡◌, ℕ, zero, suc, ◌+◌, ◌-◌, ◌*◌, ◌/◌, ◌%◌, ◌<◌, ◌≤◌, List, length, drop, sym, refl, ap, ◌∙◌, subst, ⊎_elim, arith, length-take}
use Rattle.std.proofs.lemmas.List.{ext_get_or, get_or_past}
use Rattle.std.proofs.lemmas.Nat.{mod_below}
use Rattle.std.proofs.lemmas.Bool.{cases_lt}
use Rattle.blocks.specs.Bytes.{byte_at, number_at, part_at}
use Rattle.blocks.specs.Block.{weighted, check_of, Block, record_of, record_count}
use Rattle.contents.specs.declared.act.Act.{Act}
use Rattle.series.specs.declared.records.PartRecord.{PartRecord}
use Rattle.series.specs.declared.records.SignRecord.{SignRecord}
use Rattle.records.specs.Records.{Label, HeadBytes, PartBytes, SignBytes, ActBytes}
use Rattle.blocks.proofs.Parts.{part_at_byte}
use Rattle.format.specs.Theorems.{Bytes}

-- a part of bytes
pub bytes_part : (size from : ℕ) (xs : List ℕ) → Bytes xs → Bytes (part_at size xs from)
bytes_part size from xs bytes i =
    ⊎_elim (λ l. subst (λ (x : ℕ). x < 256) (sym (part_at_byte size from xs i l)) (bytes (from + i))) (λ g. subst (λ (x : ℕ). x < 256) (sym (get_or_past (part_at size xs from) i 0 (omega (arith, length-take size (drop from xs))))) (omega arith)) (cases_lt i size)

-- a number has one way to be written
pub number_same : (k : ℕ) (x y : List ℕ) (i : ℕ) → Bytes x → Bytes y → number_at k x i ≡ number_at k y i → (j : ℕ) → j < k → byte_at x (i + j) ≡ byte_at y (i + j)
number_same zero x y i a b e j h = absurd (none j h)
  where
    none : (j : ℕ) → j < 0 → ⊥
    none j h = omega arith
number_same (suc k) x y i a b e j h =
    let u = a (i + k) in
    let v = b (i + k) in
    let high : number_at k x i ≡ number_at k y i = omega arith in
    let low : byte_at x (i + k) ≡ byte_at y (i + k) = omega arith in
    ⊎_elim (λ l. number_same k x y i a b high j l) (λ g. let at : k ≡ j = omega arith in subst (λ (q : ℕ). byte_at x (i + q) ≡ byte_at y (i + q)) at low) (cases_lt j k)

-- the same first bytes have the same check
weighted_same : (n : ℕ) (x y : List ℕ) → ((p : ℕ) → p < n → byte_at x p ≡ byte_at y p) → weighted n x ≡ weighted n y
unfolding weighted
weighted_same zero x y h = refl
weighted_same (suc n) x y h =
    let here : (n + 1) * byte_at x n ≡ (n + 1) * byte_at y n = ap (λ (b : ℕ). (n + 1) * b) (h n (omega arith)) in
    let rest = weighted_same n x y (λ p l. h p (omega arith)) in
    omega (arith, here, rest)

pub check_same : (x y : List ℕ) → ((p : ℕ) → p < 510 → byte_at x p ≡ byte_at y p) → check_of x ≡ check_of y
unfolding check_of
check_same x y h = ap (λ (s : ℕ). s % 65521) (weighted_same 510 x y h)

pub check_small : (x : List ℕ) → check_of x < 65521
unfolding check_of
check_small x = mod_below (weighted 510 x) 65521 (omega arith)

-- the bytes of two lists agree from one place up to another
abbrev pub Agree : (from to : ℕ) → List ℕ → List ℕ → Type 0
Agree from to x y = (i : ℕ) → from ≤ i → i < to → byte_at x i ≡ byte_at y i

agree_on : (x y : List ℕ) (a b c : ℕ) → Agree a b x y → Agree b c x y → Agree a c x y
agree_on x y a b c p q i l h = ⊎_elim (λ u. p i l u) (λ v. q i v h) (cases_lt i b)

agree_one : (x y : List ℕ) (a : ℕ) → byte_at x a ≡ byte_at y a → Agree a (a + 1) x y
agree_one x y a e i l h = let at : a ≡ i = omega arith in subst (λ (k : ℕ). byte_at x k ≡ byte_at y k) at e

agree_number : (k a : ℕ) (x y : List ℕ) → Bytes x → Bytes y → number_at k x a ≡ number_at k y a → Agree a (a + k) x y
agree_number k a x y p q e i l h = let at : a + (i - a) ≡ i = omega arith in subst (λ (j : ℕ). byte_at x j ≡ byte_at y j) at (number_same k x y a p q e (i - a) (omega arith))

agree_zeros : (a b : ℕ) (x y : List ℕ) → ((i : ℕ) → a ≤ i → i < b → byte_at x i ≡ 0) → ((i : ℕ) → a ≤ i → i < b → byte_at y i ≡ 0) → Agree a b x y
agree_zeros a b x y p q i l h = p i l h ∙ sym (q i l h)

all_agree : (x y : List ℕ) (n : ℕ) → length x ≡ n → length y ≡ n → Agree 0 n x y → x ≡ y
all_agree x y n a b h = ext_get_or 0 x y (a ∙ sym b) (λ i l. h i (omega arith) (omega arith))

label_same : (size : ℕ) (label x y : List ℕ) → Label size label x → Label size label y → Agree 0 (1 + size) x y
label_same size label x y a b =
    agree_on x y 0 1 (1 + size) (agree_one x y 0 (a.told ∙ sym b.told))
    (agree_on x y 1 (1 + length label) (1 + size)
    (λ i l h. let at : 1 + (i - 1) ≡ i = omega arith in subst (λ (j : ℕ). byte_at x j ≡ byte_at y j) at (a.held (i - 1) (omega arith) ∙ sym (b.held (i - 1) (omega arith))))
    (agree_zeros (1 + length label) (1 + size) x y a.padded b.padded))

pub head_same : (n m lo hi : ℕ) (x y : List ℕ) → HeadBytes n m lo hi x → HeadBytes n m lo hi y → x ≡ y
head_same n m lo hi x y a b =
    all_agree x y 30 a.long b.long (agree_on x y 0 1 30 (agree_one x y 0 (a.parts ∙ sym b.parts)) (agree_on x y 1 2 30 (agree_one x y 1 (a.signs ∙ sym b.signs)) (agree_on x y 2 3 30 (agree_one x y 2 (a.least ∙ sym b.least)) (agree_on x y 3 4 30 (agree_one x y 3 (a.most ∙ sym b.most)) (agree_zeros 4 30 x y a.rest b.rest)))))

pub part_same : (part : PartRecord) (name x y : List ℕ) → Bytes x → Bytes y → PartBytes part name x → PartBytes part name y → x ≡ y
part_same part name x y p q a b =
    all_agree x y 30 a.long b.long (agree_on x y 0 21 30 (label_same 20 name x y a.label b.label) (agree_on x y 21 22 30 (agree_one x y 21 (a.standing ∙ sym b.standing)) (agree_number 8 22 x y p q (a.mask ∙ sym b.mask))))

pub sign_same : (sign : SignRecord) (text x y : List ℕ) → SignBytes sign text x → SignBytes sign text y → x ≡ y
sign_same sign text x y a b =
    all_agree x y 30 a.long b.long (agree_on x y 0 9 30 (label_same 8 text x y a.label b.label) (agree_on x y 9 10 30 (agree_one x y 9 (a.least ∙ sym b.least)) (agree_on x y 10 11 30 (agree_one x y 10 (a.most ∙ sym b.most)) (agree_zeros 11 30 x y a.rest b.rest))))

pub act_same : (act : Act) (x y : List ℕ) → ActBytes act x → ActBytes act y → x ≡ y
act_same act x y a b =
    all_agree x y 30 a.long b.long (agree_on x y 0 1 30 (agree_one x y 0 (a.named.spelt ∙ sym b.named.spelt)) (agree_on x y 1 2 30 (agree_one x y 1 (a.named.on_part ∙ sym b.named.on_part)) (agree_on x y 2 3 30 (agree_one x y 2 (a.named.on_sign ∙ sym b.named.on_sign)) (agree_zeros 3 30 x y a.rest b.rest))))

-- two blocks of one kind and place, with the same records
pub block_same : (kind place count : ℕ) (x y : List ℕ) → Bytes x → Bytes y → count ≤ 16 → Block kind place count count x → Block kind place count count y → ((r : ℕ) → r < count → record_of x r ≡ record_of y r) → x ≡ y
block_same kind place count x y p q few a b records =
    let cx : record_count x ≡ count = omega (arith, a.laid.some, a.laid.few) in
    let cy : record_count y ≡ count = omega (arith, b.laid.some, b.laid.few) in
    let held : Agree 4 (4 + 30 * count) x y = λ i l h.
    let r : (i - 4) / 30 < count = omega arith in
    let k : (i - 4) % 30 < 30 = omega arith in
    let at : 4 + 30 * ((i - 4) / 30) + (i - 4) % 30 ≡ i = omega arith in
    subst (λ (j : ℕ). byte_at x j ≡ byte_at y j) at (sym (part_at_byte 30 (4 + 30 * ((i - 4) / 30)) x ((i - 4) % 30) k) ∙ ap (λ (rec : List ℕ). byte_at rec ((i - 4) % 30)) (records ((i - 4) / 30) r) ∙ part_at_byte 30 (4 + 30 * ((i - 4) / 30)) y ((i - 4) % 30) k) in
    let front : Agree 0 510 x y = agree_on x y 0 1 510 (agree_one x y 0 (a.laid.kind ∙ sym b.laid.kind)) (agree_on x y 1 2 510 (agree_one x y 1 (cx ∙ sym cy)) (agree_on x y 2 4 510 (agree_number 2 2 x y p q (a.laid.place ∙ sym b.laid.place)) (agree_on x y 4 (4 + 30 * count) 510 held (agree_zeros (4 + 30 * count) 510 x y (λ i l h. a.laid.rest i (omega arith) h) (λ i l h. b.laid.rest i (omega arith) h))))) in
    let checks = check_same x y (λ i h. front i (omega arith) h) in
    all_agree x y 512 a.laid.long b.laid.long (agree_on x y 0 510 512 front (agree_number 2 510 x y p q (a.check ∙ checks ∙ sym b.check)))
