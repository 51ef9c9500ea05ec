-- Numberings under entries: what an entry asks of a numbering.
use Rattle.std.specs.Prelude.{◌≡◌, ℕ, zero, suc, ◌<◌, ◌≤◌, List, length, ◌≢◌, slice_index_or}
use Rattle.network.specs.declared.role.Role.{Role}
use Rattle.network.specs.declared.role.Role.TheVariants.{Standing, Pair, Count, Other}
use Rattle.layers.specs.Named.{no_entry}
use Rattle.layers.specs.declared.entry.Bound.{Bound}
use Rattle.layers.specs.declared.entry.Bound.TheVariants.{AtLeast, AtMost}
use Rattle.layers.specs.declared.entry.Entry.{Entry}
use Rattle.series.specs.Job.{Job}
use Rattle.series.specs.Key.{role_at}
use Rattle.series.specs.Numbering.{byte_at, unsigned, uses, signed, LawfulNumbering}

-- An entry on something that is so or not so: at least 1, it is so; at most 0, it is not. At least 0 and at most 1 or more bind
-- nothing, and nothing is so more than once.
abbrev pub Settles : Bound → ℕ → Type 0 → Type 0
Settles AtLeast zero P = Unit {0}
Settles AtLeast (suc zero) P = P
Settles AtLeast (suc (suc x)) P = ⊥
Settles AtMost zero P = P → ⊥
Settles AtMost (suc x) P = Unit {0}

-- an entry on a number
abbrev pub Bounds : Bound → ℕ → ℕ → Type 0
Bounds AtLeast x n = x ≤ n
Bounds AtMost x n = n ≤ x

-- What an entry asks of a numbering, by what its line stands for: the part is signed or not; it has the sign or not; the sign is
-- used at least or at most so often; at least or at most so many parts are signed.
abbrev pub Asks : List ℕ → Bound → ℕ → Role → Type 0
Asks bytes bound x (Standing p) = Settles bound x (byte_at bytes p ≢ unsigned)
Asks bytes bound x (Pair p s) = Settles bound x (byte_at bytes p ≡ s)
Asks bytes bound x (Count s) = Bounds bound x (uses bytes s)
Asks bytes bound x Other = Bounds bound x (signed bytes)

abbrev pub Obeys : Job → List ℕ → Entry → Type 0
Obeys job bytes e = Asks bytes e.bound e.amount (role_at job e.line)

-- A numbering is lawful under entries if it is lawful and obeys each of them.
pub record LawfulUnder (job : Job) (lo hi : ℕ) (es : List Entry) (bytes : List ℕ) : Type 0 where
  pub lawful : LawfulNumbering job lo hi bytes
  pub obeys : (i : ℕ) → i < length es → Obeys job bytes (slice_index_or es i no_entry)
