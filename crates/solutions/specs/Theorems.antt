-- Numberings, solutions and flows are the same thing, under entries too.
use Rattle.std.specs.Prelude.{◌≡◌, ℕ, List}
use Rattle.network.specs.Flow.{Lawful}
use Rattle.layers.specs.Present.{present_net, Standing}
use Rattle.layers.specs.declared.entry.Entry.{Entry}
use Rattle.series.specs.Job.{Job, whole_net}
use Rattle.series.specs.Key.{key_of}
use Rattle.series.specs.Limits.{Held}
use Rattle.series.specs.Numbering.{LawfulNumbering}
use Rattle.solutions.specs.Carried.{flow_of, numbering_of}
use Rattle.solutions.specs.Obeyed.{LawfulUnder}
use Rattle.solutions.specs.Offered.{Offers}
use Rattle.solutions.specs.Solution.{SolutionsTold}

-- Each lawful numbering is one lawful flow of the network of the whole job, and each lawful flow is one lawful numbering.
pub record FlowsTold (job : Job) (lo hi : ℕ) : Type 0 where
  pub flow : (bytes : List ℕ) → LawfulNumbering job lo hi bytes → Lawful (whole_net job lo hi) (flow_of job bytes)
  pub numbering : (f : List ℕ) → Lawful (whole_net job lo hi) f → LawfulNumbering job lo hi (numbering_of (key_of job) f)
  pub back : (bytes : List ℕ) → LawfulNumbering job lo hi bytes → numbering_of (key_of job) (flow_of job bytes) ≡ bytes
  pub forth : (f : List ℕ) → Lawful (whole_net job lo hi) f → flow_of job (numbering_of (key_of job) f) ≡ f

-- So it is under entries: the same two ways, there and back, between numberings lawful under them and flows lawful under them.
pub record FlowsToldUnder (job : Job) (lo hi : ℕ) (es : List Entry) : Type 0 where
  pub flow : (bytes : List ℕ) → LawfulUnder job lo hi es bytes → Lawful (present_net (whole_net job lo hi) es) (flow_of job bytes)
  pub numbering : (f : List ℕ) → Lawful (present_net (whole_net job lo hi) es) f → LawfulUnder job lo hi es (numbering_of (key_of job) f)
  pub forth : (f : List ℕ) → Lawful (present_net (whole_net job lo hi) es) f → flow_of job (numbering_of (key_of job) f) ≡ f

abbrev pub LawfulNumberingsAreSolutions : Type 0
LawfulNumberingsAreSolutions = (job : Job) (lo hi : ℕ) → Held job → SolutionsTold job lo hi

abbrev pub LawfulNumberingsAreLawfulFlows : Type 0
LawfulNumberingsAreLawfulFlows = (job : Job) (lo hi : ℕ) → Held job → FlowsTold job lo hi

abbrev pub UnderEntriesToo : Type 0
UnderEntriesToo = (job : Job) (lo hi : ℕ) (es : List Entry) → Held job → Standing (whole_net job lo hi) es → FlowsToldUnder job lo hi es

abbrev pub FixedAndFreeLinesTellNumberings : Type 0
FixedAndFreeLinesTellNumberings = (job : Job) (lo hi : ℕ) (es : List Entry) → Held job → Standing (whole_net job lo hi) es → Offers job lo hi es
