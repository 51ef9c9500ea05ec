use Rattle.numbering.proofs.Stacked.{closed_of_job}
use Rattle.numbering.proofs.theorems.closed_jobs_are_legends_of_jobs.Goals as goal

pub returns : goal.returns
returns c = closed_of_job
