-- The form of each block of a file of n parts and m signs, and the first fault of a block.
use Rattle.std.specs.Prelude.{◌≡◌, ℕ, ◌+◌, ◌-◌, ◌*◌, ◌<◌, ◌≤◌, List, Result}
use Rattle.blocks.specs.Block.{Block, block_of, record_of, record_count}
use Rattle.blocks.specs.Faults.{BlockRefused, BlockRead}
use Rattle.blocks.specs.declared.block.Expected.{Expected}
use Rattle.blocks.specs.declared.fault.BlockFault.{BlockFault}
use Rattle.records.specs.Records.{GoodHead, GoodPart, GoodSign, GoodAct}
use Rattle.records.specs.Text.{SameText}
use Rattle.records.specs.declared.fault.RecordFault.{RecordFault}
use Rattle.records.specs.declared.fault.RecordFault.TheVariants as fault
use Rattle.layout.specs.Kinds.{letter_of, kind_of}
use Rattle.layout.specs.declared.kind.Kind.{Kind}
use Rattle.layout.specs.declared.kind.Kind.TheVariants.{Head, Parts, Signs, Acts}
use Rattle.layout.specs.Places.{filled, signs_start, acts_start, text_at}

-- what a block b of a kind is to be: the fewest and the most records that it may hold
abbrev pub expected_of : Kind → (n m b : ℕ) → Expected
expected_of Head n m b = record { kind = letter_of Head; place = b; fewest = 1; utmost = 1 }
expected_of Parts n m b = record { kind = letter_of Parts; place = b; fewest = filled n (b - 1); utmost = filled n (b - 1) }
expected_of Signs n m b = record { kind = letter_of Signs; place = b; fewest = filled m (b - signs_start n); utmost = filled m (b - signs_start n) }
expected_of Acts n m b = record { kind = letter_of Acts; place = b; fewest = 1; utmost = 16 }

-- what the block b is to be
abbrev pub expects : (n m b : ℕ) → Expected
expects n m b = expected_of (kind_of n m b) n m b

abbrev pub BlockForm : List ℕ → (n m b : ℕ) → Type 0
BlockForm file n m b = Block (expects n m b).kind b (expects n m b).fewest (expects n m b).utmost (block_of file b)

-- what reading the block b gives
abbrev pub FormRead : List ℕ → (n m b : ℕ) → Result ℕ BlockFault → Type 0
FormRead file n m b r = BlockRead (expects n m b).kind b (expects n m b).fewest (expects n m b).utmost (block_of file b) r

-- no earlier sign has the text of the sign s
abbrev pub NewText : List ℕ → (n s : ℕ) → Type 0
NewText file n s = (t : ℕ) → t < s → SameText (text_at file n t) (text_at file n s) → ⊥

-- the sign whose record is the record r of the block b
abbrev pub sign_held : (n b r : ℕ) → ℕ
sign_held n b r = 16 * (b - signs_start n) + r

-- The record r of a block b is one of this kind, and a sign's text is a new one.
abbrev pub FormOf : Kind → List ℕ → (n b r : ℕ) → Type 0
FormOf Head file n b r = GoodHead (record_of (block_of file b) r)
FormOf Parts file n b r = GoodPart (record_of (block_of file b) r)
FormOf Signs file n b r = GoodSign (record_of (block_of file b) r) × NewText file n (sign_held n b r)
FormOf Acts file n b r = GoodAct (record_of (block_of file b) r)

-- the record r of the block b is one of the block's kind
abbrev pub RecordForm : List ℕ → (n m b r : ℕ) → Type 0
RecordForm file n m b r = FormOf (kind_of n m b) file n b r

-- the first records of a block are of its kind
abbrev pub RecordsForm : List ℕ → (n m b count : ℕ) → Type 0
RecordsForm file n m b count = (r : ℕ) → r < count → RecordForm file n m b r

pub record GoodBlock (file : List ℕ) (n m b : ℕ) : Type 0 where
  pub block : BlockForm file n m b
  pub records : RecordsForm file n m b (record_count (block_of file b))

-- The record r of the block b, counted from 1, is the first that is not of the block's kind.
pub record FirstBad (file : List ℕ) (n m b r : ℕ) : Type 0 where
  pub block : BlockForm file n m b
  pub some : 1 ≤ r
  pub inside : r ≤ record_count (block_of file b)
  pub before : RecordsForm file n m b (r - 1)
  pub bad : RecordForm file n m b (r - 1) → ⊥

-- the fault that tells the record r of a block b of a kind
abbrev pub fault_at : Kind → (b r : ℕ) → RecordFault
fault_at Head b r = fault.Job b r
fault_at Parts b r = fault.Job b r
fault_at Signs b r = fault.Job b r
fault_at Acts b r = fault.Act b r

abbrev pub fault_of : (n m b r : ℕ) → RecordFault
fault_of n m b r = fault_at (kind_of n m b) b r

-- The first fault of the block b: the block's own, or else the first of its records'.
abbrev pub Faulty : List ℕ → (n m b : ℕ) → RecordFault → Type 0
Faulty file n m b (fault.Block e) = BlockRefused (expects n m b).kind b (expects n m b).fewest (expects n m b).utmost (block_of file b) e
Faulty file n m b (fault.Job c r) = (c ≡ b) × (b < acts_start n m) × FirstBad file n m b r
Faulty file n m b (fault.Act c r) = (c ≡ b) × (acts_start n m ≤ b) × FirstBad file n m b r

-- the blocks from one place up to another are good
abbrev pub GoodBlocks : List ℕ → (n m from to : ℕ) → Type 0
GoodBlocks file n m from to = (b : ℕ) → from ≤ b → b < to → GoodBlock file n m b

-- The first fault of the blocks from one place up to another.
pub record FirstFault (file : List ℕ) (n m from to : ℕ) (e : RecordFault) : Type 0 where
  pub at : ℕ
  pub behind : from ≤ at
  pub inside : at < to
  pub before : GoodBlocks file n m from at
  pub fault : Faulty file n m at e
