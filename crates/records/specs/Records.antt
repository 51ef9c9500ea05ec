-- The records of a job file: how the 30 bytes of each hold what it describes.
use Rattle.std.specs.Prelude.{◌≡◌, ℕ, ◌+◌, ◌<◌, ◌≤◌, min, cond, List, length, take, drop, ◌==◌}
use Rattle.blocks.specs.Bytes.{byte_at, number_at, Zeros}
use Rattle.contents.specs.declared.act.Act.{Act}
use Rattle.contents.specs.declared.act.Act.TheVariants.{Fix, Bar, Require, LeaveOut, Undo, Query}
use Rattle.records.specs.declared.head.HeadRecord.{HeadRecord}
use Rattle.series.specs.declared.records.PartRecord.{PartRecord}
use Rattle.series.specs.declared.records.SignRecord.{SignRecord}

-- the bytes of names and texts: printed, and no space
abbrev pub Letter : ℕ → Type 0
Letter b = (33 ≤ b) × (b ≤ 126)

-- A label (a name or a text) in a field of so many bytes: the first byte of the record is its length, its bytes follow, and zeros fill the field.
pub record Label (size : ℕ) (label bytes : List ℕ) : Type 0 where
  pub some : 1 ≤ length label
  pub fits : length label ≤ size
  pub told : byte_at bytes 0 ≡ length label
  pub held : (i : ℕ) → i < length label → byte_at bytes (1 + i) ≡ byte_at label i
  pub letters : (i : ℕ) → i < length label → Letter (byte_at label i)
  pub padded : Zeros (1 + length label) (1 + size) bytes

-- The record of a job's head: the numbers of parts and signs, and the bounds of the total.
pub record HeadBytes (n m lo hi : ℕ) (bytes : List ℕ) : Type 0 where
  pub long : length bytes ≡ 30
  pub parts : byte_at bytes 0 ≡ n
  pub signs : byte_at bytes 1 ≡ m
  pub least : byte_at bytes 2 ≡ lo
  pub most : byte_at bytes 3 ≡ hi
  pub rest : Zeros 4 30 bytes

-- The record of a part: its name, its standing and its mask.
pub record PartBytes (part : PartRecord) (name bytes : List ℕ) : Type 0 where
  pub long : length bytes ≡ 30
  pub label : Label 20 name bytes
  pub standing : byte_at bytes 21 ≡ part.standing
  pub mask : number_at 8 bytes 22 ≡ part.mask

-- The record of a sign: its text and its bounds.
pub record SignBytes (sign : SignRecord) (text bytes : List ℕ) : Type 0 where
  pub long : length bytes ≡ 30
  pub label : Label 8 text bytes
  pub least : byte_at bytes 9 ≡ sign.least
  pub most : byte_at bytes 10 ≡ sign.most
  pub rest : Zeros 11 30 bytes

-- The letter of an act, and the part and the sign that it names; 0 where it names none.
abbrev pub letter_of : Act → ℕ
letter_of (Fix p s) = 70
letter_of (Bar p s) = 66
letter_of (Require p) = 82
letter_of (LeaveOut p) = 76
letter_of Undo = 85
letter_of Query = 81

abbrev pub part_named : Act → ℕ
part_named (Fix p s) = p
part_named (Bar p s) = p
part_named (Require p) = p
part_named (LeaveOut p) = p
part_named Undo = 0
part_named Query = 0

abbrev pub sign_named : Act → ℕ
sign_named (Fix p s) = s
sign_named (Bar p s) = s
sign_named (Require p) = 0
sign_named (LeaveOut p) = 0
sign_named Undo = 0
sign_named Query = 0

-- a letter and two places name an act
pub record Names (act : Act) (letter part sign : ℕ) : Type 0 where
  pub spelt : letter ≡ letter_of act
  pub on_part : part ≡ part_named act
  pub on_sign : sign ≡ sign_named act

-- The record of an act.
pub record ActBytes (act : Act) (bytes : List ℕ) : Type 0 where
  pub long : length bytes ≡ 30
  pub named : Names act (byte_at bytes 0) (byte_at bytes 1) (byte_at bytes 2)
  pub rest : Zeros 3 30 bytes

-- What the bytes of a record hold, if they hold anything.
abbrev pub label_of : ℕ → List ℕ → List ℕ
label_of size bytes = take (min (byte_at bytes 0) size) (drop 1 bytes)

abbrev pub head_from : List ℕ → HeadRecord
head_from bytes = record { parts = byte_at bytes 0; signs = byte_at bytes 1; least = byte_at bytes 2; most = byte_at bytes 3 }

abbrev pub part_from : List ℕ → PartRecord
part_from bytes = record { mask = number_at 8 bytes 22; standing = byte_at bytes 21 }

abbrev pub sign_from : List ℕ → SignRecord
sign_from bytes = record { least = byte_at bytes 9; most = byte_at bytes 10 }

abbrev pub act_named : (letter part sign : ℕ) → Act
act_named letter part sign =
    cond (letter == 70) (Fix part sign) (cond (letter == 66) (Bar part sign) (cond (letter == 82) (Require part) (cond (letter == 76) (LeaveOut part) (cond (letter == 85) Undo Query))))

abbrev pub act_from : List ℕ → Act
act_from bytes = act_named (byte_at bytes 0) (byte_at bytes 1) (byte_at bytes 2)

-- The bytes are the record of a head, a part, a sign, an act.
abbrev pub GoodHead : List ℕ → Type 0
GoodHead bytes = HeadBytes (byte_at bytes 0) (byte_at bytes 1) (byte_at bytes 2) (byte_at bytes 3) bytes

abbrev pub GoodPart : List ℕ → Type 0
GoodPart bytes = PartBytes (part_from bytes) (label_of 20 bytes) bytes

abbrev pub GoodSign : List ℕ → Type 0
GoodSign bytes = SignBytes (sign_from bytes) (label_of 8 bytes) bytes

abbrev pub GoodAct : List ℕ → Type 0
GoodAct bytes = ActBytes (act_from bytes) bytes
