-- A line from sink to source always fits as the last of a job but for bounds out of order.
use Rattle.std.proofs.Common.{◌≡◌, ℕ, ◌<◌, ◌≤◌, None, Option, arith}
use Rattle.std.proofs.lemmas.Nat.{mul-le}
use Rattle.network.specs.Net.{size}
use Rattle.network.specs.Records.{line_of}
use Rattle.network.specs.declared.line_record.LineRecord.{LineRecord}
use Rattle.series.specs.Job.{Job, job_of, job_net, part_count, sign_count, sink_node}
use Rattle.series.specs.Limits.{Held, held}
use Rattle.series.specs.Counts.{size_is}
use Rattle.series.specs.declared.one_series.OneSeries.{OneSeries}
use Rattle.layers.specs.Closing.{FitsLast, CloseRefused}
use Rattle.layers.specs.declared.closing.CloseRefusal.{CloseRefusal}
use Rattle.layers.specs.declared.closing.CloseRefusal.TheVariants.{AlreadyClosed, Unfit}

module _ (job : Job) (held : Held job) (lo hi : ℕ) (small : hi ≤ 65535) where
  -- the line from sink to source
  abbrev total : LineRecord
  total = record { tail = sink_node job; head = 0; least = lo; most = hi }

  fits : lo ≤ hi → FitsLast (job_net job).nodes (size (job_net job)) (line_of total)
  fits ordered = record {
    fit = record { tail = omega arith; head = omega arith; ordered = ordered; small = small };
    room = rw size_is (omega (arith, mul-le (part_count job) (sign_count job) 64 64 held.parts held.signs, held.parts, held.signs));
  }

  refused_by : (last : Option LineRecord) (e : CloseRefusal) → last ≡ None → CloseRefused (job_net job) total last e → (hi < lo) × (e ≡ Unfit)
  refused_by last AlreadyClosed none h = grind (arith, none, h)
  refused_by last Unfit none h = grind (arith, fits, h.1)

pub refused : (series : OneSeries) (sink lo hi : ℕ) (last : Option LineRecord) (e : CloseRefusal) → CloseRefused (job_net (job_of series)) (record { tail = sink; head = 0; least = lo; most = hi }) last e → sink ≡ sink_node (job_of series) → hi ≤ 65535 → last ≡ None → (hi < lo) × (e ≡ Unfit)
refused series sink lo hi last e h is small none = refused_by (job_of series) (held series) lo hi small last e none (rw is at h)
