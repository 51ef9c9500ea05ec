-- The checks of a file's form, in order, and which of them is the first to fail.
use Rattle.std.specs.Prelude.{◌≡◌, ℕ, ◌+◌, ◌%◌, ◌<◌, ◌≤◌, ◌⊎◌, List, length, Result, MatchResult}
use Rattle.layout.specs.Places.{block_count, parts_in, signs_in}
use Rattle.layout.specs.Form.{GoodBlock, GoodBlocks, Faulty, FirstFault}
use Rattle.jobfile.specs.Contents.{acts_from}
use Rattle.jobfile.specs.declared.fault.JobFault.{JobFault}
use Rattle.jobfile.specs.declared.fault.JobFault.TheVariants.{Record, Length, TooMany, Short, Load, Unordered}

-- the length is that of 1 to 25 blocks
pub record Sized (file : List ℕ) : Type 0 where
  pub some : 0 < length file
  pub even : length file % 512 ≡ 0
  pub few : length file ≤ 12800

-- at most 64 parts and signs
pub record Few (file : List ℕ) : Type 0 where
  pub parts : parts_in file ≤ 64
  pub signs : signs_in file ≤ 64

-- the blocks of the job are there, and at most 16 blocks of acts behind them
pub record Whole (file : List ℕ) : Type 0 where
  pub job : acts_from file ≤ block_count file
  pub acts : block_count file ≤ acts_from file + 16

-- the lent slices have room for the records
pub record Room (file : List ℕ) (parts signs : ℕ) : Type 0 where
  pub parts' : parts_in file ≤ parts
  pub signs' : signs_in file ≤ signs

-- the head was read
pub record HeadRead (file : List ℕ) : Type 0 where
  pub sized : Sized file
  pub head : GoodBlock file 0 0 0
  pub few : Few file

-- all before the other blocks was found right
pub record Ready (file : List ℕ) (parts signs : ℕ) : Type 0 where
  pub read : HeadRead file
  pub whole : Whole file
  pub room : Room file parts signs

-- every check of the form holds
pub record Formed (file : List ℕ) : Type 0 where
  pub read : HeadRead file
  pub whole : Whole file
  pub blocks : GoodBlocks file (parts_in file) (signs_in file) 1 (block_count file)

-- The first check of the head to fail.
abbrev pub HeadRefused : List ℕ → JobFault → Type 0
HeadRefused file (Record e) = Faulty file 0 0 0 e
HeadRefused file Length = ⊥
HeadRefused file TooMany = GoodBlock file 0 0 0 × (Few file → ⊥)
HeadRefused file Short = ⊥
HeadRefused file (Load e n) = ⊥
HeadRefused file Unordered = ⊥

-- The first check of what the head's numbers ask for to fail.
abbrev pub SizeRefused : List ℕ → (parts signs : ℕ) → JobFault → Type 0
SizeRefused file parts signs (Record e) = ⊥
SizeRefused file parts signs Length = Whole file → ⊥
SizeRefused file parts signs TooMany = ⊥
SizeRefused file parts signs Short = Whole file × (Room file parts signs → ⊥)
SizeRefused file parts signs (Load e n) = ⊥
SizeRefused file parts signs Unordered = ⊥

-- What looking at the other blocks gives.
abbrev pub RestRefused : List ℕ → JobFault → Type 0
RestRefused file (Record e) = FirstFault file (parts_in file) (signs_in file) 1 (block_count file) e
RestRefused file Length = ⊥
RestRefused file TooMany = ⊥
RestRefused file Short = ⊥
RestRefused file (Load e n) = ⊥
RestRefused file Unordered = ⊥

abbrev pub RestRead : List ℕ → Result (Unit {0}) JobFault → Type 0
RestRead file r = MatchResult r (λ _. GoodBlocks file (parts_in file) (signs_in file) 1 (block_count file)) (RestRefused file)

-- The check that a fault of the form tells is the first to fail; the lent slices have so many places.
abbrev pub FormRefused : List ℕ → (parts signs : ℕ) → JobFault → Type 0
FormRefused file parts signs (Record e) =
    (Sized file × HeadRefused file (Record e)) ⊎ (Ready file parts signs × RestRefused file (Record e))
FormRefused file parts signs Length = (Sized file → ⊥) ⊎ (HeadRead file × SizeRefused file parts signs Length)
FormRefused file parts signs TooMany = Sized file × HeadRefused file TooMany
FormRefused file parts signs Short = HeadRead file × SizeRefused file parts signs Short
FormRefused file parts signs (Load e n) = ⊥
FormRefused file parts signs Unordered = ⊥
