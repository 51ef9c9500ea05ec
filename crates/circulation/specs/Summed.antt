-- Sums over the first lines of a network.
use Rattle.std.specs.Prelude.{ℕ, Bool, cond}
use Rattle.network.specs.Net.{Net, Line, line}
use Rattle.network.specs.Sum.{upto}

-- a value of the first k lines that pass a test, summed
abbrev pub summed : Net → (Line → ℕ) → (Line → Bool) → ℕ → ℕ
summed g value test k = upto k (λ i. cond (test (line g i)) (value (line g i)) 0)
