-- What the listing call answers, and what the memory lent to it holds then.
use Rattle.std.specs.Prelude.{◌≡◌, ℕ, ◌<◌, ◌⊎◌, List, length, Some, None, Ok, Err, Option, Result}
use Rattle.contents.specs.Labels.{Labelled}
use Rattle.network.specs.Net.{Net}
use Rattle.network.specs.Key.{Key}
use Rattle.sift.specs.Sifted.{Sifted}
use Rattle.sift.specs.Workspace.{Workspace, Short}
use Rattle.sift.specs.declared.refusal.SiftRefusal.{SiftRefusal}
use Rattle.sift.specs.declared.refusal.SiftRefusal.TheVariants.{Short as SiftShort, NoFlow as NoneFound}
use Rattle.text.specs.Placed.{Placed}
use Rattle.listing.specs.Shows.{Matching, Lists}
use Rattle.listing.specs.declared.refusal.ListingRefusal.{ListingRefusal}
use Rattle.listing.specs.declared.refusal.ListingRefusal.TheVariants.{Short as TooShort, Differ, NoFlow}

-- The number of each refusal, and what it tells: demand and supply of a bottleneck.
abbrev pub listing_told : ListingRefusal → ℕ × Option (ℕ × ℕ)
listing_told TooShort = (1, None)
listing_told Differ = (19, None)
listing_told (NoFlow d s) = (20, Some (d, s))

-- a refusal of the sift, as the listing passes it on
abbrev pub passed_on : SiftRefusal → ListingRefusal
passed_on SiftShort = TooShort
passed_on (NoneFound d s) = NoFlow d s

-- a buffer is short: the text, or one of the sift's
abbrev pub ShortOf : Net → List ℕ → Workspace → Type 0
ShortOf g text w = (length text < 40960) ⊎ Short g w

-- Accepted: the sift is, and the text begins with the listing and keeps its rest.
pub record Listed (g : Net) (key : Key) (l : Labelled) (text text' : List ℕ) (before after : Workspace) (written : ℕ) : Type 0 where
  pub enough : ShortOf g text before → ⊥
  pub sifted : Sifted g before after (Ok tt)
  pub bytes : List ℕ
  pub lists : Lists g key l bytes
  pub placed : Placed text 0 bytes text' written

-- Refused for want of a lawful flow: the text is kept, the buffers are as such a sift leaves them.
pub record Unlisted (g : Net) (key : Key) (l : Labelled) (text text' : List ℕ) (before after : Workspace) (d s : ℕ) : Type 0 where
  pub enough : ShortOf g text before → ⊥
  pub matching : Matching key l
  pub sifted : Sifted g before after (Err (NoneFound d s))
  pub kept : text' ≡ text

-- Refused before the sift: all memory is kept.
pub record Kept (text text' : List ℕ) (before after : Workspace) (reason : Type 0) : Type 0 where
  pub why : reason
  pub words : text' ≡ text
  pub buffers : after ≡ before

-- What the listing call does; the first reason to refuse comes first.
abbrev pub ListsOn : Net → Key → Labelled → (text text' : List ℕ) → (before after : Workspace) → Result ℕ ListingRefusal → Type 0
ListsOn g key l text text' before after (Ok written) = Listed g key l text text' before after written
ListsOn g key l text text' before after (Err TooShort) = Kept text text' before after (ShortOf g text before)
ListsOn g key l text text' before after (Err Differ) = Kept text text' before after ((ShortOf g text before → ⊥) × (Matching key l → ⊥))
ListsOn g key l text text' before after (Err (NoFlow d s)) = Unlisted g key l text text' before after d s
