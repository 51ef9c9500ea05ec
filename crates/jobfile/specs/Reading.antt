-- What reading a job file does.
use Rattle.std.specs.Prelude.{◌≡◌, ℕ, ◌<◌, ◌≤◌, ◌⊎◌, List, ◌++◌, length, drop, Ok, Err, Result}
use Rattle.series.specs.Job.{Job, job_of, whole_net}
use Rattle.series.specs.Load.{job_from, Loadable, LoadRefused}
use Rattle.series.specs.declared.one_series.OneSeries.{OneSeries}
use Rattle.series.specs.declared.records.PartRecord.{PartRecord}
use Rattle.series.specs.declared.records.SignRecord.{SignRecord}
use Rattle.layers.specs.declared.closing.Closing.{Closing}
use Rattle.job.specs.Closed.{meaning_of}
use Rattle.layout.specs.Places.{parts_in, signs_in, least_total, most_total}
use Rattle.jobfile.specs.Contents.{parts_of, signs_of, labels_of, contents_of}
use Rattle.jobfile.specs.Format.{FileOf}
use Rattle.jobfile.specs.Small.{handed_out}
use Rattle.jobfile.specs.Formed.{Few, Formed, Room, FormRefused}
use Rattle.jobfile.specs.declared.fault.JobFault.{JobFault}
use Rattle.jobfile.specs.declared.fault.JobFault.TheVariants.{Record, Length, TooMany, Short, Load, Unordered}
use Rattle.jobfile.specs.declared.file.JobFile.{JobFile}

-- the job of a file, as loading takes it
abbrev pub job_in : List ℕ → Job
job_in file = job_from (parts_in file) (signs_in file) (parts_of file) (signs_of file)

abbrev pub Loads : List ℕ → Type 0
Loads file = Loadable (parts_in file) (signs_in file) (parts_of file) (signs_of file)

-- the network is that of the job in the file, closed with the bounds of its total
pub record NetOf (file : List ℕ) (x : Closing OneSeries) : Type 0 where
  pub loads : Loads file
  pub ordered : least_total file ≤ most_total file
  pub below : job_of x.below ≡ job_in file
  pub whole : meaning_of x ≡ whole_net (job_in file) (least_total file) (most_total file)

-- Loading refuses before closing does; a file that was found right has at most 64 parts and signs.
abbrev pub NetRefused : List ℕ → JobFault → Type 0
NetRefused file (Record e) = ⊥
NetRefused file Length = ⊥
NetRefused file TooMany = Few file → ⊥
NetRefused file Short = ⊥
NetRefused file (Load e n) = (n ≡ parts_in file) × LoadRefused (parts_in file) (signs_in file) (parts_of file) (signs_of file) e
NetRefused file Unordered = Loads file × (most_total file < least_total file)

abbrev pub NetMade : List ℕ → Result (Closing OneSeries) JobFault → Type 0
NetMade file (Ok x) = NetOf file x
NetMade file (Err e) = NetRefused file e

abbrev pub SeriesMade : List ℕ → Result OneSeries JobFault → Type 0
SeriesMade file (Ok x) = Loads file × (job_of x ≡ job_in file)
SeriesMade file (Err e) = NetRefused file e

-- what opening a file gives: it is found right in form, or its first fault
abbrev pub Opened : List ℕ → (parts signs : ℕ) → Result JobFile JobFault → Type 0
Opened file parts signs (Ok x) = (x.file.now ≡ file) × FileOf file (contents_of file) × Formed file × Room file parts signs × (handed_out x ≡ labels_of file)
Opened file parts signs (Err e) = FormRefused file parts signs e

-- The file is accepted: it is the file of what it holds, and its records are in the lent slices, whose surplus is kept.
pub record Accepted (file : List ℕ) (partsBefore : List PartRecord) (signsBefore : List SignRecord) (partsAfter : List PartRecord) (signsAfter : List SignRecord) (x : JobFile) : Type 0 where
  pub same : x.file.now ≡ file
  pub holds : FileOf file (contents_of file)
  pub labels : handed_out x ≡ labels_of file
  pub formed : Formed file
  pub room : Room file (length partsBefore) (length signsBefore)
  pub loads : Loads file
  pub ordered : least_total file ≤ most_total file
  pub parts : partsAfter ≡ parts_of file ++ drop (parts_in file) partsBefore
  pub signs : signsAfter ≡ signs_of file ++ drop (signs_in file) signsBefore

-- The check that a fault tells is the first to fail: those of the form come first, then loading, then closing.
abbrev pub Refused : List ℕ → (parts signs : ℕ) → JobFault → Type 0
Refused file parts signs e = FormRefused file parts signs e ⊎ (Formed file × Room file parts signs × NetRefused file e)

abbrev pub JobRead : List ℕ → (partsBefore : List PartRecord) (signsBefore : List SignRecord) (partsAfter : List PartRecord) (signsAfter : List SignRecord) → Result JobFile JobFault → Type 0
JobRead file partsBefore signsBefore partsAfter signsAfter (Ok x) = Accepted file partsBefore signsBefore partsAfter signsAfter x
JobRead file partsBefore signsBefore partsAfter signsAfter (Err e) =
    Refused file (length partsBefore) (length signsBefore) e × (partsAfter ≡ partsBefore) × (signsAfter ≡ signsBefore)
