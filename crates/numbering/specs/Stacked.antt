-- A closed one-series job, with entries over it or without, is a legend of its whole job.
use Rattle.std.specs.Prelude.{ℕ, List, []}
use Rattle.layers.specs.Entries.{net_under}
use Rattle.layers.specs.Present.{Standing}
use Rattle.layers.specs.declared.closing.Closing.{Closing}
use Rattle.layers.specs.declared.entry.Entry.{Entry}
use Rattle.series.specs.Job.{job_of, whole_net}
use Rattle.series.specs.Key.{key_of}
use Rattle.series.specs.declared.one_series.OneSeries.{OneSeries}
use Rattle.job.specs.Closed.{ClosedJob, meaning_of}
use Rattle.numbering.specs.JobNumbered.{OfJob}

-- what the closing layer means, and what an entries layer over it means while these entries stand
pub record ClosedOfJob (series : OneSeries) (lo hi : ℕ) (x : Closing OneSeries) : Type 0 where
  pub alone : OfJob (meaning_of x) (key_of (job_of x.below)) (job_of series) lo hi []
  pub under : (es : List Entry) → Standing (whole_net (job_of series) lo hi) es → OfJob (net_under (meaning_of x) es) (key_of (job_of x.below)) (job_of series) lo hi es

abbrev pub ClosedJobsAreLegendsOfJobs : Type 0
ClosedJobsAreLegendsOfJobs = (series : OneSeries) (lo hi : ℕ) (x : Closing OneSeries) → ClosedJob series lo hi x → ClosedOfJob series lo hi x
