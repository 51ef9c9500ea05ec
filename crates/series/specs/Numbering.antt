-- Numberings by hand: what a lawful numbering is, and what the judge says of any other.
use Rattle.std.specs.Prelude.{◌≡◌, ℕ, ◌<◌, ◌≤◌, true, not, ◌⊎◌, List, length, take, Some, None, Ok, Err, Option, Result, ◌==◌, nat_eq, slice_index}
use Rattle.network.specs.Sum.{count_upto}
use Rattle.series.specs.Job.{Job, part_count, sign_count, part_at, sign_at, allows}
use Rattle.series.specs.declared.judge.JudgeRefusal.{JudgeRefusal}
use Rattle.series.specs.declared.judge.JudgeRefusal.TheVariants.{Short, Part, Sign, Total}
use Rattle.series.specs.declared.records.Part as records
use Rattle.series.specs.declared.records.Standing.{Standing}
use Rattle.series.specs.declared.records.Standing.TheVariants.{LeftOut, Optional, Required}

-- A numbering has one byte for each part: the place of its sign, or this one for a part without a sign.
abbrev pub unsigned : ℕ
unsigned = 255

-- the byte of the part at p, which is asked for within the numbering alone
abbrev pub byte_at : List ℕ → ℕ → ℕ
byte_at bytes p = slice_index bytes p

-- The rule of a part has three: the byte is the place of a sign, or says that there is none.
abbrev pub PlaceKnown : Job → ℕ → Type 0
PlaceKnown job b = (b < sign_count job) ⊎ (b ≡ unsigned)

-- A required part is signed, a left-out part is not.
abbrev pub StandingKept : Standing → ℕ → Type 0
StandingKept LeftOut b = b ≡ unsigned
StandingKept Optional b = Unit {0}
StandingKept Required b = b ≡ unsigned → ⊥

-- A sign is one that the part's mask allows.
abbrev pub InMask : Job → ℕ → ℕ → Type 0
InMask job mask b = b < sign_count job → allows mask b ≡ true

pub record PartKept (job : Job) (part : records.Part) (b : ℕ) : Type 0 where
  pub known : PlaceKnown job b
  pub standing : StandingKept part.standing b
  pub mask : InMask job part.mask b

abbrev pub PartRule : Job → (p b : ℕ) → Type 0
PartRule job p b = PartKept job (part_at job p) b

-- how many parts have the sign s, and how many have a sign
abbrev pub uses : List ℕ → ℕ → ℕ
uses bytes s = count_upto (length bytes) (λ p. nat_eq (byte_at bytes p) s)

abbrev pub signed : List ℕ → ℕ
signed bytes = count_upto (length bytes) (λ p. not (byte_at bytes p == unsigned))

-- The rule of a sign, one that no mask allows too: it is used as often as its bounds have it.
abbrev pub SignRule : Job → List ℕ → ℕ → Type 0
SignRule job bytes s = ((sign_at job s).least ≤ uses bytes s) × (uses bytes s ≤ (sign_at job s).most)

-- The rule of the total: so many parts are signed.
abbrev pub TotalRule : ℕ → ℕ → ℕ → Type 0
TotalRule lo hi t = (lo ≤ t) × (t ≤ hi)

-- the rules of the first parts, and of the first signs, are kept
abbrev pub PartsKept : Job → List ℕ → ℕ → Type 0
PartsKept job bytes n = (p : ℕ) → p < n → PartRule job p (byte_at bytes p)

abbrev pub SignsKept : Job → List ℕ → ℕ → Type 0
SignsKept job bytes m = (s : ℕ) → s < m → SignRule job bytes s

-- A lawful numbering of a job whose total is bounded by lo and hi.
pub record LawfulNumbering (job : Job) (lo hi : ℕ) (bytes : List ℕ) : Type 0 where
  pub long : length bytes ≡ part_count job
  pub parts : PartsKept job bytes (part_count job)
  pub signs : SignsKept job bytes (sign_count job)
  pub total : TotalRule lo hi (signed bytes)

-- The number of each refusal, and what it tells: the place of a part or a sign, or the total.
abbrev pub judge_told : JudgeRefusal → ℕ × Option ℕ
judge_told Short = (1, None)
judge_told (Part p) = (21, Some p)
judge_told (Sign s) = (22, Some s)
judge_told (Total t) = (23, Some t)

-- the part at p is the first whose rule is broken, and so for signs
abbrev pub FirstPart : Job → List ℕ → ℕ → Type 0
FirstPart job bytes p = (p < part_count job) × PartsKept job bytes p × (PartRule job p (byte_at bytes p) → ⊥)

abbrev pub FirstSign : Job → List ℕ → ℕ → Type 0
FirstSign job bytes s = (s < sign_count job) × SignsKept job bytes s × (SignRule job bytes s → ⊥)

-- What the judge says of a numbering: it is lawful, or which rule is the first broken, parts before signs before the total.
abbrev pub Verdict : Job → ℕ → ℕ → List ℕ → Result (Unit {0}) JudgeRefusal → Type 0
Verdict job lo hi bytes (Ok _) = LawfulNumbering job lo hi bytes
Verdict job lo hi bytes (Err Short) = ⊥
Verdict job lo hi bytes (Err (Part p)) = FirstPart job bytes p
Verdict job lo hi bytes (Err (Sign s)) = PartsKept job bytes (part_count job) × FirstSign job bytes s
Verdict job lo hi bytes (Err (Total t)) =
    PartsKept job bytes (part_count job) × SignsKept job bytes (sign_count job) × (t ≡ signed bytes) × (TotalRule lo hi t → ⊥)

-- Of a slice the judge looks at the first bytes alone, one for each part; a slice with fewer is refused before all else.
pub record Judged (job : Job) (lo hi : ℕ) (bytes : List ℕ) (r : Result (Unit {0}) JudgeRefusal) : Type 0 where
  pub short : length bytes < part_count job → r ≡ Err Short
  pub told : part_count job ≤ length bytes → Verdict job lo hi (take (part_count job) bytes) r
