-- The judge passes a lawful numbering.
use Rattle.std.proofs.Common.{◌≡◌, ℕ, ◌≤◌, List, length, take, Ok, Err, Result, sym, refl, subst}
use Rattle.series.specs.Job.{Job, part_count}
use Rattle.series.specs.Numbering.{TotalRule, LawfulNumbering, Verdict, Judged}
use Rattle.series.specs.declared.judge.JudgeRefusal.{JudgeRefusal}
use Rattle.series.specs.declared.judge.JudgeRefusal.TheVariants.{Short, Part, Sign, Total}

module _ (job : Job) (lo hi : ℕ) where
  passes : (bytes : List ℕ) → LawfulNumbering job lo hi bytes → (r : Result (Unit {0}) JudgeRefusal) → Verdict job lo hi bytes r → r ≡ Ok tt
  passes bytes law (Ok tt) h = refl
  passes bytes law (Err Short) h = absurd h
  passes bytes law (Err (Part p)) h = absurd (h.2 (law.parts p h.0))
  passes bytes law (Err (Sign s)) h = absurd (h.1.2 (law.signs s h.1.0))
  passes bytes law (Err (Total t)) h = absurd (h.3 (subst (TotalRule lo hi) (sym h.2) law.total))

  pub judge_passes : (bytes : List ℕ) → part_count job ≤ length bytes → LawfulNumbering job lo hi (take (part_count job) bytes) → (r : Result (Unit {0}) JudgeRefusal) → Judged job lo hi bytes r → r ≡ Ok tt
  judge_passes bytes long law r judged = passes (take (part_count job) bytes) law r (judged.told long)
