-- The key of a legend is a key of any network with at least as many lines: those added stand for nothing in particular.
use Rattle.std.specs.Prelude.{ℕ, ◌≤◌, Some, None, Option}
use Rattle.std.proofs.Common.{arith}
use Rattle.network.specs.Net.{Net, size}
use Rattle.network.specs.Key.{Key, Keyed, Only, Finds}
use Rattle.network.specs.declared.role.Role.{Role}

module _ (below above : Net) (key : Key) (grows : size below ≤ size above) where
  only_kept : (role : Role) (k : ℕ) → Only below key role k → Only above key role k
  only_kept role k h = record { inside = omega (arith, h.inside); stands = h.stands; alone = h.alone }

  finds_kept : (role : Role) (found : Option ℕ) → Finds below key role found → Finds above key role found
  finds_kept role None h = h
  finds_kept role (Some k) h = only_kept role k h

  pub keyed_kept : Keyed below key → Keyed above key
  keyed_kept h = record {
    parts = h.parts;
    signs = h.signs;
    beyond = λ k l. h.beyond k (omega (arith, l));
    part = λ p l. finds_kept _ _ (h.part p l);
    no_part = h.no_part;
    pair = λ p s l m. finds_kept _ _ (h.pair p s l m);
    no_pair = h.no_pair;
  }
