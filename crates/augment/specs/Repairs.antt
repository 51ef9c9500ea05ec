-- Repairs of a flow, before and after.
use Rattle.std.specs.Prelude.{◌≡◌}
use Rattle.augment.specs.declared.repair.Repair.{Repair}

-- The repair is still of the same network, in the same memory.
pub record SameMemory (before after : Repair) : Type 0 where
  pub graph : after.graph ≡ before.graph
  pub flow : after.flow.ghost_name ≡ before.flow.ghost_name
  pub spare : after.spare.ghost_name ≡ before.spare.ghost_name
  pub lack : after.lack.ghost_name ≡ before.lack.ghost_name
