-- The faults of a job file, those of its records and blocks among them: the number, the block and the record that each tells.
use Rattle.std.specs.Prelude.{ℕ, ◌+◌, ◌/◌, ◌%◌}
use Rattle.series.specs.Load.{load_told}
use Rattle.series.specs.declared.load.LoadRefusal.{LoadRefusal}
use Rattle.series.specs.declared.load.LoadRefusal.TheVariants as load
use Rattle.records.specs.Faults.{record_told}
use Rattle.layout.specs.Places.{parts_start, signs_start}
use Rattle.jobfile.specs.declared.fault.JobFault.{JobFault}
use Rattle.jobfile.specs.declared.fault.JobFault.TheVariants.{Record, Length, TooMany, Short, Load, Unordered}

-- the block and the record, counted from 1, of the part or sign k, whose kind begins with the block `start`
abbrev pub spot : (start k : ℕ) → ℕ × ℕ
spot start k = (start + k / 16, 1 + k % 16)

-- the place of what loading a job of n parts refuses
abbrev pub load_spot : ℕ → LoadRefusal → ℕ × ℕ
load_spot n load.Short = (0, 0)
load_spot n load.TooMany = (0, 1)
load_spot n (load.Sign s) = spot (signs_start n) s
load_spot n (load.Mask p) = spot parts_start p
load_spot n (load.Standing p) = spot parts_start p

-- the number, the block counted from 0, and the record counted from 1
abbrev pub job_told : JobFault → ℕ × ℕ × ℕ
job_told (Record e) = record_told e
job_told Length = (14, 0, 0)
job_told TooMany = (2, 0, 1)
job_told Short = (1, 0, 0)
job_told (Load e n) = ((load_told e).0, (load_spot n e).0, (load_spot n e).1)
job_told Unordered = (9, 0, 1)
