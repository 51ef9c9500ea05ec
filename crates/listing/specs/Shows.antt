-- What a listing shows, by the lawful flows alone.
use Rattle.std.specs.Prelude.{◌≡◌, ℕ, ◌<◌, true, List, length, Some, None, Decides, Option}
use Rattle.contents.specs.Labels.{Labelled}
use Rattle.network.specs.Net.{Net, Same}
use Rattle.network.specs.Key.{Key}
use Rattle.network.specs.Flow.{Fixed, Free}
use Rattle.rendering.specs.Render.{Table, render}

-- the line that a legend answers is fixed at an amount; where it answers none, nothing is
abbrev pub FixedOn : Net → Option ℕ → ℕ → Type 0
FixedOn g None x = ⊥
FixedOn g (Some l) x = Fixed g l x

-- some lawful flow carries another amount over that line
abbrev pub FreeOn : Net → Option ℕ → ℕ → Type 0
FreeOn g None x = ⊥
FreeOn g (Some l) x = Free g l x

-- A part must be signed if its line is fixed at 1, and cannot be if that is fixed at 0; it may have a sign if the line of the pair
-- is not fixed at 0, and then some lawful flow gives it to the part.
pub record Shows (g : Net) (key : Key) (t : Table) : Type 0 where
  pub signed : (p : ℕ) → p < key.parts → Decides (t.signed p) (FixedOn g (key.part_line p) 1)
  pub unsigned : (p : ℕ) → p < key.parts → Decides (t.unsigned p) (FixedOn g (key.part_line p) 0)
  pub may : (p s : ℕ) → p < key.parts → s < key.signs → Decides (t.may p s) (FixedOn g (key.pair_line p s) 0 → ⊥)
  pub some : (p s : ℕ) → p < key.parts → s < key.signs → t.may p s ≡ true → FreeOn g (key.pair_line p s) 0

-- labels for as many parts and signs as the legend has
pub record Matching (key : Key) (l : Labelled) : Type 0 where
  pub parts : key.parts ≡ length l.names
  pub signs : key.signs ≡ length l.texts

-- A listing: the text of what is so shown. No flow is named, and none is left open: see below.
pub record Lists (g : Net) (key : Key) (l : Labelled) (bytes : List ℕ) : Type 0 where
  pub matching : Matching key l
  pub table : Table
  pub shows : Shows g key table
  pub text : bytes ≡ render l table

-- legends that answer the same lines
pub record SameKey (key other : Key) : Type 0 where
  pub parts : key.parts ≡ other.parts
  pub signs : key.signs ≡ other.signs
  pub part_line : (p : ℕ) → key.part_line p ≡ other.part_line p
  pub pair_line : (p s : ℕ) → key.pair_line p s ≡ other.pair_line p s

-- Listings of networks of the same meaning, with the same labels, are the same bytes.
abbrev pub SameMeaningSameListing : Type 0
SameMeaningSameListing =
    (g h : Net) (key other : Key) (l : Labelled) (a b : List ℕ) → Same g h → SameKey key other → Lists g key l a → Lists h other l b → a ≡ b
