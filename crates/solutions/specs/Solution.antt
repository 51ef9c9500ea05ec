-- What a job asks for, said without bytes: which parts are signed, and with which sign each of them. The field's word: a global
-- cardinality constraint with an open scope and a bounded total.
use Rattle.std.specs.Prelude.{◌≡◌, ℕ, ◌<◌, ◌≤◌, Bool, true, false, cond, not, ◌&&◌, List, map, length, ◌==◌}
use Rattle.std.specs.List.{range_with_len}
use Rattle.network.specs.Sum.{count_upto}
use Rattle.series.specs.Job.{Job, part_count, sign_count, part_at, sign_at, allows}
use Rattle.series.specs.Numbering.{byte_at, unsigned, LawfulNumbering}
use Rattle.series.specs.declared.records.Standing.TheVariants.{LeftOut, Required}

-- a number within bounds
pub record Between (a b x : ℕ) : Type 0 where
  pub low : a ≤ x
  pub high : x ≤ b

-- A solution: a set of parts that holds every required and no left-out part, and for each part of the set a sign of its mask, so
-- that the count of each sign and the size of the set are within their bounds. What `sign` says of a part outside the set does
-- not matter.
pub record Solution (job : Job) (lo hi : ℕ) (set : ℕ → Bool) (sign : ℕ → ℕ) : Type 0 where
  pub required : (p : ℕ) → p < part_count job → (part_at job p).standing ≡ Required → set p ≡ true
  pub left_out : (p : ℕ) → p < part_count job → (part_at job p).standing ≡ LeftOut → set p ≡ false
  pub known : (p : ℕ) → p < part_count job → set p ≡ true → sign p < sign_count job
  pub allowed : (p : ℕ) → p < part_count job → set p ≡ true → allows (part_at job p).mask (sign p) ≡ true
  pub counts : (s : ℕ) → s < sign_count job → Between (sign_at job s).least (sign_at job s).most (count_upto (part_count job) (λ p. set p && sign p == s))
  pub total : Between lo hi (count_upto (part_count job) set)

-- the set and the signs that a numbering tells
abbrev pub set_of : List ℕ → ℕ → Bool
set_of bytes p = not (byte_at bytes p == unsigned)

abbrev pub sign_of : List ℕ → ℕ → ℕ
sign_of bytes p = byte_at bytes p

-- the numbering that tells a set and signs
abbrev pub bytes_of : Job → (ℕ → Bool) → (ℕ → ℕ) → List ℕ
bytes_of job set sign = map (λ p. cond (set p) (sign p) unsigned) (range_with_len 0 (part_count job))

-- A numbering tells this set and, for each part of it, this sign.
pub record Tells (job : Job) (bytes : List ℕ) (set : ℕ → Bool) (sign : ℕ → ℕ) : Type 0 where
  pub long : length bytes ≡ part_count job
  pub sets : (p : ℕ) → p < part_count job → set_of bytes p ≡ set p
  pub signs : (p : ℕ) → p < part_count job → set p ≡ true → sign_of bytes p ≡ sign p

-- The lawful numberings of a job are exactly its solutions: a numbering is lawful exactly if what it tells is a solution, and
-- every solution is told by a lawful one.
pub record SolutionsTold (job : Job) (lo hi : ℕ) : Type 0 where
  pub solves : (bytes : List ℕ) → LawfulNumbering job lo hi bytes → Solution job lo hi (set_of bytes) (sign_of bytes)
  pub lawful : (bytes : List ℕ) → length bytes ≡ part_count job → Solution job lo hi (set_of bytes) (sign_of bytes) → LawfulNumbering job lo hi bytes
  pub tells : (set : ℕ → Bool) (sign : ℕ → ℕ) → Solution job lo hi set sign → Tells job (bytes_of job set sign) set sign
  pub told : (set : ℕ → Bool) (sign : ℕ → ℕ) → Solution job lo hi set sign → LawfulNumbering job lo hi (bytes_of job set sign)
