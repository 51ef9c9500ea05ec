-- The answers of the call that turns a numbering into its flow.
use Rattle.std.proofs.Common.{◌≡◌, ℕ, ◌+◌, ◌≤◌, List, ◌++◌, length, take, drop, Err, refl, subst}
use Rattle.series.specs.Job.{Job, part_count, line_count}
use Rattle.series.specs.Limits.{Held}
use Rattle.series.specs.Numbering.{LawfulNumbering, Judged}
use Rattle.series.specs.declared.judge.JudgeRefusal.{JudgeRefusal}
use Rattle.series.specs.declared.judge.JudgeRefusal.TheVariants.{Short, Part, Sign, Total}
use Rattle.solutions.specs.Carried.{flow_of}
use Rattle.solutions.specs.Obeyed.{LawfulUnder}
use Rattle.solutions.proofs.FromFlow.{numbering_back}
use Rattle.solutions.proofs.Obeyed.{flow_under, numbering_under}
use Rattle.solutions.proofs.Solutions.{solutions_told}
use Rattle.solutions.proofs.Told.{flows_told}
use Rattle.solutions.proofs.ToFlow.{flow_lawful}
use Rattle.numbering.specs.Flowed.{TooShort, Flowed, Flows, JobTold}

module _ (job : Job) (lo hi : ℕ) (held : Held job) where
  pub job_is_told : JobTold job lo hi
  job_is_told = record { solutions = solutions_told job lo hi held; flows = flows_told job lo hi held }

  module _ (bytes flow : List ℕ) (enough : TooShort job bytes flow → ⊥) where
    -- the judge's refusal is passed on
    pub refused : (e : JudgeRefusal) → part_count job ≤ length bytes → Judged job lo hi bytes (Err e) → Flows job lo hi bytes flow flow (Err e)
    refused Short long judged = absurd (judged.told long)
    refused (Part p) long judged = record { enough = enough; judged = judged.told long; kept = refl }
    refused (Sign s) long judged = record { enough = enough; judged = judged.told long; kept = refl }
    refused (Total t) long judged = record { enough = enough; judged = judged.told long; kept = refl }

    pub flowed : (flow' : List ℕ) → LawfulNumbering job lo hi (take (part_count job) bytes) → flow' ≡ flow_of job (take (part_count job) bytes) ++ drop (line_count job + 1) flow → Flowed job lo hi bytes flow flow'
    flowed flow' law written =
        let numbers = take (part_count job) bytes in
        record {
          enough = enough;
          lawful = law;
          written = written;
          lawful_flow = flow_lawful job lo hi held numbers law;
          back = numbering_back job held lo hi numbers law;
          under = λ es standing. record {
            there = flow_under job lo hi es held standing numbers;
            back = λ lawful. subst (LawfulUnder job lo hi es) (numbering_back job held lo hi numbers law) (numbering_under job lo hi es held standing (flow_of job numbers) lawful);
          };
        }
