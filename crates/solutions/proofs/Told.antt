-- Each lawful numbering is one lawful flow, and the reverse.
use Rattle.std.proofs.Common.{ℕ}
use Rattle.series.specs.Job.{Job}
use Rattle.series.specs.Limits.{Held}
use Rattle.solutions.specs.Theorems.{FlowsTold}
use Rattle.solutions.proofs.ToFlow.{flow_lawful}
use Rattle.solutions.proofs.FromFlow.{numbering_lawful, numbering_back, flow_back}

pub flows_told : (job : Job) (lo hi : ℕ) → Held job → FlowsTold job lo hi
flows_told job lo hi held = record {
  flow = flow_lawful job lo hi held;
  numbering = λ f. numbering_lawful job held f lo hi;
  back = numbering_back job held lo hi;
  forth = λ f. flow_back job held f lo hi;
}
