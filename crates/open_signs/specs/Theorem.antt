-- The signs that a listing of a job shows, and its lawful numberings.
use Rattle.std.specs.Prelude.{ℕ, ◌<◌, List, Decides}
use Rattle.contents.specs.Labels.{Labelled}
use Rattle.layers.specs.Present.{present_net, Standing}
use Rattle.layers.specs.declared.entry.Entry.{Entry}
use Rattle.series.specs.Job.{Job, part_count, sign_count, whole_net}
use Rattle.series.specs.Key.{key_of}
use Rattle.series.specs.Limits.{Held}
use Rattle.solutions.specs.Offered.{SomeHas}
use Rattle.listing.specs.Shows.{Lists}

-- A listing under entries that can stand shows exactly the signs that each part has in some numbering lawful under them.
abbrev pub ShownSignsAreThoseOfLawfulNumberings : Type 0
ShownSignsAreThoseOfLawfulNumberings =
    (job : Job) (lo hi : ℕ) (es : List Entry) (l : Labelled) (bytes : List ℕ) → Held job → Standing (whole_net job lo hi) es
    → (listing : Lists (present_net (whole_net job lo hi) es) (key_of job) l bytes)
    → (p s : ℕ) → p < part_count job → s < sign_count job → Decides (listing.table.may p s) (SomeHas job lo hi es p s)
