-- A job whose one-series network is closed.
use Rattle.std.specs.Prelude.{◌≡◌, ℕ, ◌<◌, ◌≤◌, Ok, Err, Result}
use Rattle.network.specs.Net.{Net}
use Rattle.series.specs.Job.{job_of, job_net, whole_net}
use Rattle.series.specs.declared.one_series.OneSeries.{OneSeries}
use Rattle.layers.specs.Closing.{closed_net}
use Rattle.layers.specs.declared.closing.CloseRefusal.{CloseRefusal}
use Rattle.layers.specs.declared.closing.CloseRefusal.TheVariants.{Unfit}
use Rattle.layers.specs.declared.closing.Closing.{Closing}

-- what a closing layer over a one-series network means
abbrev pub meaning_of : Closing OneSeries → Net
meaning_of x = closed_net (job_net (job_of x.below)) x.last

-- the series lies below, and the layer means the network of the whole job
pub record ClosedJob (series : OneSeries) (lo hi : ℕ) (x : Closing OneSeries) : Type 0 where
  pub below : x.below ≡ series
  pub ordered : lo ≤ hi
  pub whole : meaning_of x ≡ whole_net (job_of series) lo hi

-- What closing a job does: it is refused exactly where lo is above hi.
abbrev pub ClosesJob : OneSeries → (lo hi : ℕ) → Result (Closing OneSeries) CloseRefusal → Type 0
ClosesJob series lo hi (Ok x) = ClosedJob series lo hi x
ClosesJob series lo hi (Err e) = (hi < lo) × (e ≡ Unfit)
