-- Loading a job from records: what is loaded, and which fault refuses it.
use Rattle.std.specs.Prelude.{◌≡◌, ℕ, ◌^◌, ◌<◌, ◌≤◌, cond, ◌⊎◌, List, map, length, take, Some, None, Ok, Err, Option, Result, MatchResult, ◌==◌, slice_index_or}
use Rattle.arrayvec.specs.ArrayVec.{ArrayVec}
use Rattle.series.specs.Job.{Job, job_of}
use Rattle.series.specs.Sound.{no_sign, SoundSign, SoundSigns}
use Rattle.series.specs.declared.load.LoadRefusal.{LoadRefusal}
use Rattle.series.specs.declared.load.LoadRefusal.TheVariants.{Short, TooMany, Sign, Mask, Standing}
use Rattle.series.specs.declared.one_series.OneSeries.{OneSeries}
use Rattle.series.specs.declared.records.Part.{Part}
use Rattle.series.specs.declared.records.PartRecord.{PartRecord}
use Rattle.series.specs.declared.records.SignRecord.{SignRecord}
use Rattle.series.specs.declared.records.Standing as standing
use Rattle.series.specs.declared.records.UnknownStanding.{UnknownStanding}

-- The number of each refusal, and the place of the part or the sign that it tells.
abbrev pub load_told : LoadRefusal → ℕ × Option ℕ
load_told Short = (1, None)
load_told TooMany = (2, None)
load_told (Sign s) = (3, Some s)
load_told (Mask p) = (4, Some p)
load_told (Standing p) = (5, Some p)

-- the standing that a byte of a record names: 0, 1 or 2
abbrev pub standing_of : ℕ → standing.Standing
standing_of b = cond (b == 0) standing.TheVariants.LeftOut (cond (b == 1) standing.TheVariants.Optional standing.TheVariants.Required)

-- the standing that a byte names, or that it names none
abbrev pub Names : ℕ → Result standing.Standing UnknownStanding → Type 0
Names b r = MatchResult r (λ s. (b ≤ 2) × (s ≡ standing_of b)) (λ _. 2 < b)

-- the part that a record describes
abbrev pub part_of : PartRecord → Part
part_of r = record { mask = r.mask; standing = standing_of r.standing }

-- the job of the first n part records and the first m sign records
abbrev pub job_from : ℕ → ℕ → List PartRecord → List SignRecord → Job
job_from n m parts signs = record { parts = map part_of (take n parts); signs = take m signs }

abbrev pub no_record : PartRecord
no_record = record { mask = 0; standing = 0 }

-- the slices are long enough, and there are at most 64 parts and signs
pub record Sized (n m : ℕ) (parts : List PartRecord) (signs : List SignRecord) : Type 0 where
  pub parts_there : n ≤ length parts
  pub signs_there : m ≤ length signs
  pub parts_few : n ≤ 64
  pub signs_few : m ≤ 64

-- A part record is sound among m signs: its standing is 0, 1 or 2, and its mask has no bit at or above m.
pub record SoundPart (m : ℕ) (r : PartRecord) : Type 0 where
  pub standing : r.standing ≤ 2
  pub mask : r.mask < 2 ^ m

-- the first n part records are sound
abbrev pub SoundParts : ℕ → ℕ → List PartRecord → Type 0
SoundParts n m parts = (p : ℕ) → p < n → SoundPart m (slice_index_or parts p no_record)

-- Why the record at a place is not kept: of the two faults of a part the standing comes first.
abbrev pub PartUnsound : ℕ → ℕ → PartRecord → LoadRefusal → Type 0
PartUnsound m place r e = ((e ≡ Standing place) × (2 < r.standing)) ⊎ ((e ≡ Mask place) × (r.standing ≤ 2) × (2 ^ m ≤ r.mask))

abbrev pub SignUnsound : ℕ → SignRecord → LoadRefusal → Type 0
SignUnsound place r e = (e ≡ Sign place) × (SoundSign r → ⊥)

-- What is kept of the record at a place, among m signs.
abbrev pub KeepsPart : ℕ → ℕ → PartRecord → Result Part LoadRefusal → Type 0
KeepsPart m place r kept = MatchResult kept (λ part. SoundPart m r × (part ≡ part_of r)) (PartUnsound m place r)

abbrev pub KeepsSign : ℕ → SignRecord → Result SignRecord LoadRefusal → Type 0
KeepsSign place r kept = MatchResult kept (λ sign. SoundSign r × (sign ≡ r)) (SignUnsound place r)

-- What a rule keeps of each of the first records, in order; and of all, or the refusal of the first that it refuses.
pub record KeptFirst {R T E : Type 0} (Keeps : ℕ → R → Result T E → Type 0) (records : List R) (count : ℕ) (kept : List T) : Type 0 where
  pub long : length kept ≡ count
  pub each : (k : ℕ) → k < count → (r : R) (t : T) → Keeps k (slice_index_or records k r) (Ok (slice_index_or kept k t))

pub record RefusedFirst {R T E : Type 0} (Keeps : ℕ → R → Result T E → Type 0) (records : List R) (e : E) : Type 0 where
  pub place : ℕ
  pub inside : place < length records
  pub kept : List T
  pub before : KeptFirst Keeps records place kept
  pub refused : (r : R) → Keeps place (slice_index_or records place r) (Err e)

abbrev pub KeepsAll : {R T E : Type 0} → (ℕ → R → Result T E → Type 0) → List R → Result (ArrayVec T) E → Type 0
KeepsAll Keeps records result =
    MatchResult result (λ v. KeptFirst Keeps records (length records) v.items) (RefusedFirst Keeps records)

-- A slice is shorter than its count; or else there are more than 64 parts or signs.
abbrev pub SizeFault : ℕ → ℕ → List PartRecord → List SignRecord → LoadRefusal → Type 0
SizeFault n m parts signs Short = (length parts < n) ⊎ (length signs < m)
SizeFault n m parts signs TooMany = (n ≤ length parts) × (m ≤ length signs) × ((64 < n) ⊎ (64 < m))
SizeFault n m parts signs (Sign s) = ⊥
SizeFault n m parts signs (Mask p) = ⊥
SizeFault n m parts signs (Standing p) = ⊥

-- The part told is the first that is not sound; of its two faults the standing comes first.
abbrev pub PartFault : ℕ → ℕ → List PartRecord → LoadRefusal → Type 0
PartFault n m parts Short = ⊥
PartFault n m parts TooMany = ⊥
PartFault n m parts (Sign s) = ⊥
PartFault n m parts (Mask p) =
    (p < n) × SoundParts p m parts × ((slice_index_or parts p no_record).standing ≤ 2) × (2 ^ m ≤ (slice_index_or parts p no_record).mask)
PartFault n m parts (Standing p) = (p < n) × SoundParts p m parts × (2 < (slice_index_or parts p no_record).standing)

-- The sign told is the first that is not sound.
abbrev pub SignFault : ℕ → List SignRecord → LoadRefusal → Type 0
SignFault m signs Short = ⊥
SignFault m signs TooMany = ⊥
SignFault m signs (Sign s) = (s < m) × SoundSigns signs s × (SoundSign (slice_index_or signs s no_sign) → ⊥)
SignFault m signs (Mask p) = ⊥
SignFault m signs (Standing p) = ⊥

-- A fault of the size comes first, then one of a part, then one of a sign.
abbrev pub LoadRefused : ℕ → ℕ → List PartRecord → List SignRecord → LoadRefusal → Type 0
LoadRefused n m parts signs e =
    SizeFault n m parts signs e ⊎ ((Sized n m parts signs × PartFault n m parts e) ⊎ (Sized n m parts signs × SoundParts n m parts × SignFault m signs e))

-- what an accepted load found
pub record Loadable (n m : ℕ) (parts : List PartRecord) (signs : List SignRecord) : Type 0 where
  pub sized : Sized n m parts signs
  pub parts_sound : SoundParts n m parts
  pub signs_sound : SoundSigns signs m

-- What loading does: accepted, the network holds exactly the job of the records; refused, it is what it was.
abbrev pub Loading : ℕ → ℕ → List PartRecord → List SignRecord → OneSeries → OneSeries → Result (Unit {0}) LoadRefusal → Type 0
Loading n m parts signs before after r =
    MatchResult r (λ _. Loadable n m parts signs × (job_of after ≡ job_from n m parts signs)) (λ e. LoadRefused n m parts signs e × (after ≡ before))
