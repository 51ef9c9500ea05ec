-- How many lines the network of a job has, and the line at each place.
use Rattle.std.specs.Prelude.{◌≡◌, ℕ, ◌<◌, ◌≤◌, length, Some, None}
use Rattle.std.proofs.Common.{arith}
use Rattle.std.specs.List.{slice_get}
use Rattle.std.proofs.lemmas.Option.{slice_get-get_or, slice_get_past}
use Rattle.std.proofs.lemmas.List.FromFn.{length-map-range_with_len, get_or-map-range_with_len}
use Rattle.network.specs.Net.{size, no_line}
use Rattle.series.specs.Job.{Job, line_count, line_at, job_net}

pub size_is : (job : Job) → size (job_net job) ≡ line_count job
size_is job = length-map-range_with_len (line_at job) 0 (line_count job)

-- the lines of a job by place
pub line_inside : (job : Job) (k : ℕ) → k < line_count job → slice_get (job_net job).lines k ≡ Some (line_at job k)
line_inside job k h =
    let inside : k < length (job_net job).lines = rw length-map-range_with_len h in
    rw (slice_get-get_or (job_net job).lines k no_line inside, get_or-map-range_with_len (line_at job) 0 (line_count job) k k no_line h (omega arith))

pub line_beyond : (job : Job) (k : ℕ) → line_count job ≤ k → slice_get (job_net job).lines k ≡ None
line_beyond job k h = slice_get_past (job_net job).lines k (rw length-map-range_with_len h)
