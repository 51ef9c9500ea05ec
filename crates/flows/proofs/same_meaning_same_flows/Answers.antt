-- Each part of what the networks share, by its lemma.
use Rattle.flows.proofs.Same.{lawful_same, demand_same, supply_same, bottleneck_same, fixed_same, free_same}
use Rattle.flows.proofs.same_meaning_same_flows.Goals as goal

pub returns : goal.returns
returns c =
    λ m n s.
    record {
      flows = lawful_same s;
      demands = demand_same s;
      supplies = supply_same s;
      bottlenecks = bottleneck_same s;
      fixed = fixed_same s;
      free = free_same s;
    }
