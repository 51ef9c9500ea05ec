-- A record holds one thing: what its bytes give.
use Rattle.std.proofs.Common.{◌≡◌, ℕ, ◌<◌, List, length, sym, refl, ap, ◌∙◌, subst, arith}
use Rattle.std.proofs.lemmas.List.{ext_get_or}
use Rattle.blocks.specs.Bytes.{byte_at, number_at}
use Rattle.contents.specs.declared.act.Act.{Act}
use Rattle.contents.specs.declared.act.Act.TheVariants.{Fix, Bar, Require, LeaveOut, Undo, Query}
use Rattle.series.specs.declared.records.PartRecord.{PartRecord}
use Rattle.series.specs.declared.records.SignRecord.{SignRecord}
use Rattle.records.specs.Records.{Label, HeadBytes, PartBytes, SignBytes, ActBytes, Names, GoodHead, GoodPart, GoodSign, GoodAct, label_of, part_from, sign_from, act_from, act_named}
use Rattle.records.proofs.Labels.{label_length, label_at}

pub label_is : (size : ℕ) (label bytes : List ℕ) → size < length bytes → Label size label bytes → label ≡ label_of size bytes
label_is size label bytes long l =
    let e : length (label_of size bytes) ≡ byte_at bytes 0 = label_length size bytes long (omega (arith, l.told, l.fits)) in
    ext_get_or 0 label (label_of size bytes) (omega (arith, e, l.told)) (λ i h. sym (l.held i h) ∙ sym (label_at size bytes i (omega (arith, e, l.told))))

pub part_is : (part : PartRecord) (name bytes : List ℕ) → PartBytes part name bytes → part ≡ part_from bytes
part_is part name bytes h =
    let made : ℕ → ℕ → PartRecord = λ mask standing. record { mask = mask; standing = standing } in
    ap (λ (x : ℕ). made x part.standing) (sym h.mask) ∙ ap (λ (x : ℕ). made (number_at 8 bytes 22) x) (sym h.standing)

pub sign_is : (sign : SignRecord) (text bytes : List ℕ) → SignBytes sign text bytes → sign ≡ sign_from bytes
sign_is sign text bytes h =
    let made : ℕ → ℕ → SignRecord = λ least most. record { least = least; most = most } in
    ap (λ (x : ℕ). made x sign.most) (sym h.least) ∙ ap (λ (x : ℕ). made (byte_at bytes 9) x) (sym h.most)

named_is : (act : Act) (letter part sign : ℕ) → Names act letter part sign → act ≡ act_named letter part sign
named_is (Fix p s) letter part sign h = let a = h.spelt in let b = h.on_part in let c = h.on_sign in cc
named_is (Bar p s) letter part sign h = let a = h.spelt in let b = h.on_part in let c = h.on_sign in cc
named_is (Require p) letter part sign h = let a = h.spelt in let b = h.on_part in cc
named_is (LeaveOut p) letter part sign h = let a = h.spelt in let b = h.on_part in cc
named_is Undo letter part sign h = let a = h.spelt in cc
named_is Query letter part sign h = let a = h.spelt in cc

pub act_is : (act : Act) (bytes : List ℕ) → ActBytes act bytes → act ≡ act_from bytes
act_is act bytes h = named_is act _ _ _ h.named

pub good_part : (part : PartRecord) (name bytes : List ℕ) → PartBytes part name bytes → GoodPart bytes
good_part part name bytes h =
    subst (λ (x : PartRecord). PartBytes x (label_of 20 bytes) bytes) (part_is part name bytes h) (subst (λ (x : List ℕ). PartBytes part x bytes) (label_is 20 name bytes (omega (arith, h.long)) h.label) h)

pub good_sign : (sign : SignRecord) (text bytes : List ℕ) → SignBytes sign text bytes → GoodSign bytes
good_sign sign text bytes h =
    subst (λ (x : SignRecord). SignBytes x (label_of 8 bytes) bytes) (sign_is sign text bytes h) (subst (λ (x : List ℕ). SignBytes sign x bytes) (label_is 8 text bytes (omega (arith, h.long)) h.label) h)

pub good_act : (act : Act) (bytes : List ℕ) → ActBytes act bytes → GoodAct bytes
good_act act bytes h = subst (λ (x : Act). ActBytes x bytes) (act_is act bytes h) h

pub good_head : (n m lo hi : ℕ) (bytes : List ℕ) → HeadBytes n m lo hi bytes → GoodHead bytes
good_head n m lo hi bytes h = record { long = h.long; parts = refl; signs = refl; least = refl; most = refl; rest = h.rest }
