-- What is printed of a job file.
use Rattle.std.specs.Prelude.{◌≡◌, ℕ, ◌≤◌, ◌⊎◌, List, [], ◌∷◌, ◌++◌, decimal}
use Rattle.layout.specs.Places.{least_total, most_total}
use Rattle.jobfile.specs.Contents.{acts_of, labels_of}
use Rattle.jobfile.specs.Faults.{job_told}
use Rattle.jobfile.specs.Formed.{Formed}
use Rattle.jobfile.specs.Reading.{job_in, Loads, Refused}
use Rattle.jobfile.specs.declared.fault.JobFault.{JobFault}
use Rattle.series.specs.Job.{whole_net}
use Rattle.series.specs.Key.{key_of}
use Rattle.desk.specs.Transcript.{Transcript}

-- "file", the number of a fault, its block and its record
abbrev pub fault_line : ℕ × ℕ × ℕ → List ℕ
fault_line told =
    (102 ∷ 105 ∷ 108 ∷ 101 ∷ 32 ∷ []) ++ (decimal told.0 ++ 32 ∷ []) ++ (decimal told.1 ++ 32 ∷ []) ++ (decimal told.2 ++ 10 ∷ [])

-- A refused file: the line of its first fault, and nothing else. The records of 64 parts and 64 signs have room.
pub record PrintsFault (file bytes : List ℕ) : Type 0 where
  pub fault : JobFault
  pub first : Refused file 64 64 fault
  pub text : bytes ≡ fault_line (job_told fault)

-- A file that was found right: the transcript of its acts over the network of its job, closed with the bounds of the total.
pub record PrintsTranscript (file bytes : List ℕ) : Type 0 where
  pub formed : Formed file
  pub loads : Loads file
  pub ordered : least_total file ≤ most_total file
  pub transcript : Transcript (whole_net (job_in file) (least_total file) (most_total file)) (key_of (job_in file)) (labels_of file) (acts_of file) bytes

abbrev pub Prints : (file bytes : List ℕ) → Type 0
Prints file bytes = PrintsFault file bytes ⊎ PrintsTranscript file bytes
