-- What a numbering says where the legend is that of a whole job, with entries over it or without.
use Rattle.std.specs.Prelude.{◌≡◌, ℕ, ◌+◌, ◌<◌, ◌⊎◌, List, take, Ok, Err, Result, slice_index}
use Rattle.network.specs.Flow.{at}
use Rattle.network.specs.Key.{Key}
use Rattle.network.specs.Net.{Net, Same}
use Rattle.layers.specs.Present.{present_net, Standing}
use Rattle.layers.specs.declared.entry.Entry.{Entry}
use Rattle.series.specs.Job.{Job, part_count, sign_count, line_count, whole_net}
use Rattle.series.specs.Key.{key_of, pair_place}
use Rattle.series.specs.Limits.{Held}
use Rattle.series.specs.Numbering.{unsigned, Judged}
use Rattle.series.specs.declared.judge.JudgeRefusal.{JudgeRefusal}
use Rattle.sift.specs.Workspace.{Workspace}
use Rattle.sift.specs.declared.refusal.SiftRefusal.{SiftRefusal}
use Rattle.sift.specs.declared.refusal.SiftRefusal.TheVariants.{Short, NoFlow}
use Rattle.solutions.specs.Carried.{flow_of}
use Rattle.solutions.specs.Obeyed.{LawfulUnder}
use Rattle.solutions.specs.Offered.{SomeHas, NoneHas, SomeSigns, NoneSigns}

-- A legend is that of a whole job under these entries.
pub record OfJob (g : Net) (key : Key) (job : Job) (lo hi : ℕ) (es : List Entry) : Type 0 where
  pub held : Held job
  pub standing : Standing (whole_net job lo hi) es
  pub same : Same g (present_net (whole_net job lo hi) es)
  pub told : key ≡ key_of job

-- what the buffers of an accepted sift call a line: fixed at an amount, or free
abbrev pub CalledFixed : Workspace → ℕ → ℕ → Type 0
CalledFixed w k x = (slice_index w.verdicts k ≡ 1) × (at w.flow k ≡ x)

abbrev pub CalledFree : Workspace → ℕ → Type 0
CalledFree w k = slice_index w.verdicts k ≡ 0

-- What the verdicts say of the lawful numberings under the entries, for optional parts exactly as for required ones.
pub record VerdictsTell (job : Job) (lo hi : ℕ) (es : List Entry) (w : Workspace) : Type 0 where
  -- a sign not fixed at 0 is the part's sign in some of them, one fixed at 0 in none
  pub offered : (p s : ℕ) → p < part_count job → s < sign_count job → (CalledFixed w (pair_place job p s) 0 → ⊥) → SomeHas job lo hi es p s
  pub shut : (p s : ℕ) → p < part_count job → s < sign_count job → CalledFixed w (pair_place job p s) 0 → NoneHas job lo hi es p s
  -- a part's line is fixed at 1, fixed at 0 or free
  pub cases : (p : ℕ) → p < part_count job → CalledFixed w p 1 ⊎ (CalledFixed w p 0 ⊎ CalledFree w p)
  -- as the part is signed in all of them, in none, or in some but not all
  pub always : (p : ℕ) → p < part_count job → CalledFixed w p 1 → NoneHas job lo hi es p unsigned
  pub never : (p : ℕ) → p < part_count job → CalledFixed w p 0 → NoneSigns job lo hi es p
  pub sometimes : (p : ℕ) → p < part_count job → CalledFree w p → SomeSigns job lo hi es p × SomeHas job lo hi es p unsigned

-- An accepted numbering of a job: the bytes written are lawful and obey every standing entry, the judge passes them, and their
-- flow is the flow shown.
pub record JobNumbered (job : Job) (lo hi : ℕ) (es : List Entry) (w : Workspace) (bytes : List ℕ) : Type 0 where
  pub lawful : LawfulUnder job lo hi es (take (part_count job) bytes)
  pub passes : (r : Result (Unit {0}) JudgeRefusal) → Judged job lo hi bytes r → r ≡ Ok tt
  pub flow : flow_of job (take (part_count job) bytes) ≡ take (line_count job + 1) w.flow
  pub verdicts : VerdictsTell job lo hi es w

-- what an answer says of a job: where there is no lawful flow, there is no lawful numbering under the entries
abbrev pub NumbersJob : Job → (lo hi : ℕ) → List Entry → Workspace → List ℕ → Result (Unit {0}) SiftRefusal → Type 0
NumbersJob job lo hi es w bytes (Ok _) = JobNumbered job lo hi es w bytes
NumbersJob job lo hi es w bytes (Err Short) = Unit {0}
NumbersJob job lo hi es w bytes (Err (NoFlow d s)) = (other : List ℕ) → LawfulUnder job lo hi es other → ⊥

abbrev pub NumbersJobs : Net → Key → Workspace → List ℕ → Result (Unit {0}) SiftRefusal → Type 0
NumbersJobs g key w bytes r = (job : Job) (lo hi : ℕ) (es : List Entry) → OfJob g key job lo hi es → NumbersJob job lo hi es w bytes r
