-- What a load answers: the network that the records tell, or why they tell none.
use Rattle.std.specs.Prelude.{◌≡◌, ℕ, ◌<◌, ◌≤◌, ◌⊎◌, List, length, take, Ok, Err, Result}
use Rattle.network.specs.Net.{Net, Fit, Limits, size, line}
use Rattle.network.specs.Records.{net_of}
use Rattle.network.specs.declared.line_record.LineRecord.{LineRecord}
use Rattle.listed.specs.declared.refusal.ListedRefusal.{ListedRefusal}
use Rattle.listed.specs.declared.refusal.ListedRefusal.TheVariants.{Short, TooLarge, BadLine}

-- every line fits the network
abbrev pub AllFit : Net → Type 0
AllFit n = (k : ℕ) → k < size n → Fit n.nodes (line n k)

-- the line at this place is the first that does not fit
pub record FirstUnfit (n : Net) (place : ℕ) : Type 0 where
  pub inside : place < size n
  pub unfit : Fit n.nodes (line n place) → ⊥
  pub before : (k : ℕ) → k < place → Fit n.nodes (line n k)

-- there are as many records as lines; and the numbers of nodes and lines keep the limits
abbrev pub Enough : ℕ → List LineRecord → Type 0
Enough count records = count ≤ length records

pub record Sized (nodes count : ℕ) : Type 0 where
  pub narrow : nodes ≤ 1024
  pub short : count ≤ 16384

-- Why so many nodes, and the first `count` of these records, are refused. A reason is told only where none before it holds.
abbrev pub Refused : (nodes count : ℕ) → List LineRecord → ListedRefusal → Type 0
Refused nodes count records Short = length records < count
Refused nodes count records TooLarge = Enough count records × ((1024 < nodes) ⊎ (16384 < count))
Refused nodes count records (BadLine place) = Enough count records × (Sized nodes count × FirstUnfit (net_of nodes (take count records)) place)

-- What a load makes of the network that was held before: the one that the first `count` records tell, or no change.
abbrev pub Loaded : (nodes count : ℕ) → List LineRecord → (before after : Net) → Result (Unit {0}) ListedRefusal → Type 0
Loaded nodes count records before after (Ok _) = Enough count records × (Limits after × (after ≡ net_of nodes (take count records)))
Loaded nodes count records before after (Err refusal) = Refused nodes count records refusal × (after ≡ before)
