-- What was loaded is the job of the file.
use Rattle.std.proofs.Common.{◌≡◌, ℕ, List, length, Ok, Err, Result, MatchResult, sym, ap, ◌∙◌, subst}
use Rattle.std.proofs.lemmas.List.FromFn.{length-map-range_with_len}
use Rattle.series.specs.Job.{job_of}
use Rattle.series.specs.Load.{job_from, Loadable, LoadRefused}
use Rattle.series.specs.declared.load.LoadRefusal.{LoadRefusal}
use Rattle.series.specs.declared.one_series.OneSeries.{OneSeries}
use Rattle.series.specs.declared.records.PartRecord.{PartRecord}
use Rattle.series.specs.declared.records.SignRecord.{SignRecord}
use Rattle.layout.specs.Places.{parts_in, signs_in}
use Rattle.jobfile.specs.Contents.{parts_of, signs_of}
use Rattle.jobfile.specs.Reading.{SeriesMade}
use Rattle.jobfile.specs.declared.fault.JobFault.{JobFault}
use Rattle.jobfile.specs.declared.fault.JobFault.TheVariants.{Load}

module _ (file : List ℕ) where
  -- what holds of the numbers and records that were handed over holds of the file's
  pub of_file : (P : ℕ → ℕ → List PartRecord → List SignRecord → Type 0) (n m : ℕ) (parts : List PartRecord) (signs : List SignRecord) → n ≡ parts_in file → m ≡ signs_in file → parts ≡ parts_of file → signs ≡ signs_of file → P n m parts signs → P (parts_in file) (signs_in file) (parts_of file) (signs_of file)
  of_file P n m parts signs a b c d h =
      subst (λ (x : List SignRecord). P (parts_in file) (signs_in file) (parts_of file) x) d (subst (λ (x : List PartRecord). P (parts_in file) (signs_in file) x signs) c (subst (λ (x : ℕ). P (parts_in file) x parts signs) b (subst (λ (x : ℕ). P x m parts signs) a h)))

module _ (file : List ℕ) (parts : List PartRecord) (signs : List SignRecord) (p : parts ≡ parts_of file) (s : signs ≡ signs_of file) where
  -- and of how many they are
  of_lists : (P : ℕ → ℕ → List PartRecord → List SignRecord → Type 0) → P (length parts) (length signs) parts signs → P (parts_in file) (signs_in file) (parts_of file) (signs_of file)
  of_lists P h =
      let long = length-map-range_with_len _ 0 (parts_in file) in
      let many = length-map-range_with_len _ 0 (signs_in file) in
      of_file file P (length parts) (length signs) parts signs (ap length p ∙ long) (ap length s ∙ many) p s h

  -- loaded, the network is that of the file; refused, the fault tells the refusal and how many parts there are
  pub series_made : (n : ℕ) (was : Result OneSeries LoadRefusal) (r : Result OneSeries JobFault) → n ≡ parts_in file
      → MatchResult was (λ x. Loadable (length parts) (length signs) parts signs × (job_of x ≡ job_from (length parts) (length signs) parts signs)) (LoadRefused (length parts) (length signs) parts signs)
      → MatchResult was (λ x. r ≡ Ok x) (λ e. r ≡ Err (Load e n))
      → SeriesMade file r
  series_made n (Ok x) r count loaded is = subst (SeriesMade file) (sym is) (of_lists (λ n m parts signs. Loadable n m parts signs × (job_of x ≡ job_from n m parts signs)) loaded)
  series_made n (Err e) r count loaded is = subst (SeriesMade file) (sym is) (count, of_lists (λ n m parts signs. LoadRefused n m parts signs e) loaded)
