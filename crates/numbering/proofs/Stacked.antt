-- A closed one-series job, with entries over it or without, is a legend of its whole job.
use Rattle.std.proofs.Common.{◌≡◌, ℕ, [], sym, refl, ap, ◌∙◌, subst, arith}
use Rattle.network.specs.Net.{Net, Same, tail, head, least, most}
use Rattle.flows.proofs.Same.{same_refl}
use Rattle.layers.specs.Entries.{net_under}
use Rattle.layers.specs.Present.{present, present_net}
use Rattle.layers.specs.declared.closing.Closing.{Closing}
use Rattle.layers.proofs.Standing.{standing_net}
use Rattle.layers.specs.Under.{size_bounded, line_bounded}
use Rattle.series.specs.Job.{job_of, whole_net}
use Rattle.series.specs.Key.{key_of}
use Rattle.series.specs.Limits.{held}
use Rattle.series.specs.declared.one_series.OneSeries.{OneSeries}
use Rattle.job.specs.Closed.{ClosedJob}
use Rattle.numbering.specs.Stacked.{ClosedOfJob}

-- with no entries a network means what it does
same_alone : (g : Net) → Same g (present_net g [])
same_alone g =
    let count = size_bounded g (present g []) in
    record {
      nodes = refl;
      count = sym count;
      tails = λ k h. sym (ap tail (line_bounded g (present g []) k h));
      heads = λ k h. sym (ap head (line_bounded g (present g []) k h));
      leasts = λ k h. sym (ap least (line_bounded g (present g []) k h));
      mosts = λ k h. sym (ap most (line_bounded g (present g []) k h));
    }

module _ (series : OneSeries) (lo hi : ℕ) (x : Closing OneSeries) (closed : ClosedJob series lo hi x) where
  key_is : key_of (job_of x.below) ≡ key_of (job_of series)
  key_is = ap (λ s. key_of (job_of s)) closed.below

  pub closed_of_job : ClosedOfJob series lo hi x
  closed_of_job = record {
    alone = record {
      held = held series;
      standing = λ i h. absurd (omega arith);
      same = subst (λ g. Same g (present_net (whole_net (job_of series) lo hi) [])) (sym closed.whole) (same_alone (whole_net (job_of series) lo hi));
      told = key_is;
    };
    under = λ es standing. record {
      held = held series;
      standing = standing;
      same = subst (λ g. Same g (present_net (whole_net (job_of series) lo hi) es)) (sym (ap (λ g. net_under g es) closed.whole ∙ standing_net (whole_net (job_of series) lo hi) es standing)) (same_refl (present_net (whole_net (job_of series) lo hi) es));
      told = key_is;
    };
  }
