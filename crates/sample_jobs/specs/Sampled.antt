-- What a sample stands for: names, records, and the job that they make.
use Rattle.std.specs.Prelude.{ℕ, List, map, Some, None, Option, codes, length, slice_get}
use Rattle.series.specs.Job.{Job}
use Rattle.series.specs.Load.{part_of, LoadRefused}
use Rattle.series.specs.declared.load.LoadRefusal.{LoadRefusal}
use Rattle.sample_jobs.specs.declared.sample.Named.{Named}
use Rattle.sample_jobs.specs.declared.sample.Sample.{Sample}

abbrev pub name_or : {R : Type 0} → Option (Named R) → List ℕ
name_or None = codes "?"
name_or (Some x) = x.name.now

-- what the record at a place is called; a question mark where there is none
abbrev pub name_at : {R : Type 0} → List (Named R) → ℕ → List ℕ
name_at named place = name_or (slice_get named place)

abbrev pub records_of : {R : Type 0} → List (Named R) → List R
records_of named = map (λ x. x.record) named

-- the job that the records make
abbrev pub job_of_sample : Sample → Job
job_of_sample x = record { parts = map part_of (records_of x.parts.now); signs = records_of x.signs.now }

-- why the records are refused: for what loading all of them tells
abbrev pub SampleRefused : Sample → LoadRefusal → Type 0
SampleRefused x e =
    LoadRefused (length x.parts.now) (length x.signs.now) (records_of x.parts.now) (records_of x.signs.now) e
