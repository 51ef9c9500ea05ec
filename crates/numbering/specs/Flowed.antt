-- What the call does that turns a numbering into its flow.
use Rattle.std.specs.Prelude.{◌≡◌, ℕ, ◌+◌, ◌<◌, ◌⊎◌, List, ◌++◌, length, take, drop, Ok, Err, Result}
use Rattle.network.specs.Flow.{Lawful}
use Rattle.layers.specs.Present.{present_net, Standing}
use Rattle.layers.specs.declared.entry.Entry.{Entry}
use Rattle.series.specs.Job.{Job, part_count, line_count, whole_net}
use Rattle.series.specs.Key.{key_of}
use Rattle.series.specs.Numbering.{LawfulNumbering, Verdict}
use Rattle.series.specs.declared.judge.JudgeRefusal.{JudgeRefusal}
use Rattle.series.specs.declared.judge.JudgeRefusal.TheVariants.{Short, Part, Sign, Total}
use Rattle.solutions.specs.Carried.{flow_of, numbering_of}
use Rattle.solutions.specs.Obeyed.{LawfulUnder}
use Rattle.solutions.specs.Solution.{SolutionsTold}
use Rattle.solutions.specs.Theorems.{FlowsTold}

-- two statements of which each gives the other
pub record Alike (P Q : Type 0) : Type 0 where
  pub there : P → Q
  pub back : Q → P

-- the numbering or the flow buffer is shorter than the job needs
abbrev pub TooShort : Job → (bytes flow : List ℕ) → Type 0
TooShort job bytes flow = (length bytes < part_count job) ⊎ (length flow < line_count job + 1)

-- The first bytes, one for each part, are a lawful numbering, and the buffer holds its flow; what lies beyond is kept. It is
-- lawful under entries as a numbering exactly if its flow is lawful under them.
pub record Flowed (job : Job) (lo hi : ℕ) (bytes flow flow' : List ℕ) : Type 0 where
  pub enough : TooShort job bytes flow → ⊥
  pub lawful : LawfulNumbering job lo hi (take (part_count job) bytes)
  pub written : flow' ≡ flow_of job (take (part_count job) bytes) ++ drop (line_count job + 1) flow
  pub lawful_flow : Lawful (whole_net job lo hi) (flow_of job (take (part_count job) bytes))
  pub back : numbering_of (key_of job) (flow_of job (take (part_count job) bytes)) ≡ take (part_count job) bytes
  pub under : (es : List Entry) → Standing (whole_net job lo hi) es → Alike (LawfulUnder job lo hi es (take (part_count job) bytes)) (Lawful (present_net (whole_net job lo hi) es) (flow_of job (take (part_count job) bytes)))

-- Refused: the flow buffer is as it was, and the refusal is the judge's.
pub record Unlawful (job : Job) (lo hi : ℕ) (bytes flow flow' : List ℕ) (e : JudgeRefusal) : Type 0 where
  pub enough : TooShort job bytes flow → ⊥
  pub judged : Verdict job lo hi (take (part_count job) bytes) (Err e)
  pub kept : flow' ≡ flow

abbrev pub Flows : Job → (lo hi : ℕ) → (bytes flow flow' : List ℕ) → Result (Unit {0}) JudgeRefusal → Type 0
Flows job lo hi bytes flow flow' (Ok _) = Flowed job lo hi bytes flow flow'
Flows job lo hi bytes flow flow' (Err Short) = TooShort job bytes flow × (flow' ≡ flow)
Flows job lo hi bytes flow flow' (Err (Part p)) = Unlawful job lo hi bytes flow flow' (Part p)
Flows job lo hi bytes flow flow' (Err (Sign s)) = Unlawful job lo hi bytes flow flow' (Sign s)
Flows job lo hi bytes flow flow' (Err (Total t)) = Unlawful job lo hi bytes flow flow' (Total t)

-- Over the whole job: lawful numberings are exactly its solutions, and one to one its lawful flows.
pub record JobTold (job : Job) (lo hi : ℕ) : Type 0 where
  pub solutions : SolutionsTold job lo hi
  pub flows : FlowsTold job lo hi
