-- What a legend tells beyond its lines: how many parts and signs there are, and which line stands for which of them.
use Rattle.std.specs.Prelude.{◌≡◌, ℕ, ◌<◌, ◌≤◌, ◌⊎◌, Some, None, Option}
use Rattle.network.specs.Net.{Net, size}
use Rattle.network.specs.declared.role.Role.{Role}
use Rattle.network.specs.declared.role.Role.TheVariants.{Standing, Pair, Other}

pub record Key : Type 0 where
  pub parts : ℕ
  pub signs : ℕ
  -- what the line at each place stands for
  pub role : ℕ → Role
  -- the line of a part, and of a part with a sign
  pub part_line : ℕ → Option ℕ
  pub pair_line : ℕ → ℕ → Option ℕ

-- The line at k stands for this role, and no other line does.
pub record Only (n : Net) (key : Key) (r : Role) (k : ℕ) : Type 0 where
  pub inside : k < size n
  pub stands : key.role k ≡ r
  pub alone : (j : ℕ) → key.role j ≡ r → j ≡ k

-- The answer to "which line stands for this role" names the only one.
abbrev pub Finds : Net → Key → Role → Option ℕ → Type 0
Finds n key r None = ⊥
Finds n key r (Some k) = Only n key r k

-- The law of a legend: each part, and each pair of a part and a sign, has exactly one line, which is the answer; any other
-- place has none; and from the number of lines up a place stands for nothing in particular.
pub record Keyed (n : Net) (key : Key) : Type 0 where
  pub parts : key.parts ≤ 255
  pub signs : key.signs ≤ 255
  pub beyond : (k : ℕ) → size n ≤ k → key.role k ≡ Other
  pub part : (p : ℕ) → p < key.parts → Finds n key (Standing p) (key.part_line p)
  pub no_part : (p : ℕ) → key.parts ≤ p → key.part_line p ≡ None
  pub pair : (p s : ℕ) → p < key.parts → s < key.signs → Finds n key (Pair p s) (key.pair_line p s)
  pub no_pair : (p s : ℕ) → (key.parts ≤ p) ⊎ (key.signs ≤ s) → key.pair_line p s ≡ None
