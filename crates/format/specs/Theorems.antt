-- Theorems on the format of job files.
use Rattle.std.specs.Prelude.{◌≡◌, ℕ, ◌^◌, ◌<◌, ◌≤◌, List, [], length, slice_index_or}
use Rattle.blocks.specs.Bytes.{byte_at}
use Rattle.series.specs.Load.{Loadable, no_record}
use Rattle.series.specs.Sound.{no_sign}
use Rattle.records.specs.Records.{Letter}
use Rattle.records.specs.Text.{SameText}
use Rattle.jobfile.specs.Contents.{Contents, contents_of}
use Rattle.jobfile.specs.Format.{FileOf}
use Rattle.jobfile.specs.Formed.{Formed}
use Rattle.jobfile.specs.Reading.{Refused}
use Rattle.jobfile.specs.declared.fault.JobFault.{JobFault}

-- Reading gives back what was written: a file is the file of nothing but what its bytes hold.
abbrev pub FilesHoldOneThing : Type 0
FilesHoldOneThing = (file : List ℕ) (c : Contents) → FileOf file c → c ≡ contents_of file

-- The checks of the form accept exactly the files of the format.
pub record ExactlyFiles (file : List ℕ) : Type 0 where
  pub accepted : Formed file → FileOf file (contents_of file)
  pub files : (c : Contents) → FileOf file c → Formed file

abbrev pub ChecksAcceptExactlyFiles : Type 0
ChecksAcceptExactlyFiles = (file : List ℕ) → ExactlyFiles file

-- The file of a job that loads and closes, with room for its records, is refused with no fault: so it is accepted.
abbrev pub GoodFilesAreAccepted : Type 0
GoodFilesAreAccepted =
    (file : List ℕ) (c : Contents) (parts signs : ℕ) (e : JobFault) → FileOf file c → length c.parts ≤ parts → length c.signs ≤ signs → Loadable (length c.parts) (length c.signs) c.parts c.signs → c.lo ≤ c.hi → Refused file parts signs e → ⊥

-- a list of bytes
abbrev pub Bytes : List ℕ → Type 0
Bytes xs = (i : ℕ) → byte_at xs i < 256

-- What a file holds determines its bytes: a job with its acts, block by block, has at most one file, and so has a job without acts.
abbrev pub AtMostOneFile : Type 0
AtMostOneFile = (file other : List ℕ) (c : Contents) → Bytes file → Bytes other → FileOf file c → FileOf other c → file ≡ other

-- a label of 1 to so many bytes
pub record GoodLabel (size : ℕ) (label : List ℕ) : Type 0 where
  pub some : 1 ≤ length label
  pub fits : length label ≤ size
  pub letters : (i : ℕ) → i < length label → Letter (byte_at label i)

-- A job without acts whose labels and numbers fit the fields of a file.
pub record Writable (c : Contents) : Type 0 where
  pub names : length c.labels.names ≡ length c.parts
  pub texts : length c.labels.texts ≡ length c.signs
  pub few_parts : length c.parts ≤ 64
  pub few_signs : length c.signs ≤ 64
  pub no_acts : c.acts ≡ []
  pub name_fits : (p : ℕ) → p < length c.parts → GoodLabel 20 (slice_index_or c.labels.names p [])
  pub text_fits : (s : ℕ) → s < length c.signs → GoodLabel 8 (slice_index_or c.labels.texts s [])
  pub standing : (p : ℕ) → p < length c.parts → (slice_index_or c.parts p no_record).standing < 256
  pub mask : (p : ℕ) → p < length c.parts → (slice_index_or c.parts p no_record).mask < 2 ^ 64
  pub least : (s : ℕ) → s < length c.signs → (slice_index_or c.signs s no_sign).least < 256
  pub most : (s : ℕ) → s < length c.signs → (slice_index_or c.signs s no_sign).most < 256
  pub lo : c.lo < 256
  pub hi : c.hi < 256
  pub apart : (t s : ℕ) → t < s → s < length c.signs → SameText (slice_index_or c.labels.texts t []) (slice_index_or c.labels.texts s []) → ⊥

-- Such a job has a file; with the theorem above, exactly one.
abbrev pub AtLeastOneFile : Type 0
AtLeastOneFile = (c : Contents) → Writable c → (file : List ℕ) × (Bytes file × FileOf file c)
