-- What the steps of a run do to the transcript so far.
use Rattle.std.specs.Prelude.{◌≡◌, ℕ, ◌<◌, List, ◌++◌, length, Ok, Err, Option, Result}
use Rattle.std.specs.declared.alloc.AllocError.{AllocError}
use Rattle.contents.specs.Labels.{Labelled}
use Rattle.network.specs.Net.{Net}
use Rattle.network.specs.Key.{Key}
use Rattle.layers.specs.Present.{Standing}
use Rattle.layers.specs.declared.entry.Entry.{Entry}
use Rattle.acts.specs.declared.change.Change.{Change}
use Rattle.listing.specs.declared.refusal.ListingRefusal.{ListingRefusal}
use Rattle.listing.specs.declared.refusal.ListingRefusal.TheVariants.{Short, Differ, NoFlow}
use Rattle.text.specs.Placed.{Placed}
use Rattle.desk.specs.Transcript.{Finds, Prints, after_change}

-- bytes are appended, unless memory is wanting
abbrev pub Appended : (before after bytes : List ℕ) → Result (Unit {0}) AllocError → Type 0
Appended before after bytes (Ok _) = after ≡ before ++ bytes
Appended before after bytes (Err _) = Unit {0}

-- a listing made in a text of any length, with the memory of a sift that is never short
pub record Written (g : Net) (key : Key) (l : Labelled) (text text' : List ℕ) (written : ℕ) : Type 0 where
  pub bytes : List ℕ
  pub finds : Finds g key l (Ok bytes)
  pub placed : Placed text 0 bytes text' written

abbrev pub ListsIn : Net → Key → Labelled → (text text' : List ℕ) → Result ℕ ListingRefusal → Type 0
ListsIn g key l text text' (Ok written) = Written g key l text text' written
ListsIn g key l text text' (Err Short) = length text < 40960
ListsIn g key l text text' (Err Differ) = Finds g key l (Err Differ)
ListsIn g key l text text' (Err (NoFlow d s)) = Finds g key l (Err (NoFlow d s))

-- the network below a layer, whose meaning is known, stays; entries that can stand are left; the line is appended
pub record Stepped (g : Net) (key : Key) (l : Labelled) (number : ℕ) (change : Option Change) (before after : List Entry) (so_far then : List ℕ) : Type 0 where
  pub bytes : List ℕ
  pub prints : Prints g key l number before change bytes
  pub left : after ≡ after_change g key before change
  pub stands : Standing g after
  pub text : then ≡ so_far ++ bytes

abbrev pub Steps : Net → Key → Labelled → ℕ → Option Change → (before after : List Entry) → (so_far then : List ℕ) → Result (Unit {0}) AllocError → Type 0
Steps g key l number change before after so_far then (Ok _) = Stepped g key l number change before after so_far then
Steps g key l number change before after so_far then (Err _) = Unit {0}
