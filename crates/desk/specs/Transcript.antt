-- The transcript of a list of acts: each act's line in order, by the reference log and the lawful flows.
use Rattle.std.specs.Prelude.{◌≡◌, ℕ, ◌+◌, ◌<◌, List, [], ◌∷◌, ◌++◌, length, take, Some, None, Ok, Err, Option, Result, slice_index_or}
use Rattle.std.specs.List.{flat_map}
use Rattle.contents.specs.Labels.{Labelled}
use Rattle.contents.specs.declared.act.Act.{Act}
use Rattle.contents.specs.declared.act.Act.TheVariants.{Query}
use Rattle.network.specs.Net.{Net}
use Rattle.network.specs.Key.{Key}
use Rattle.network.specs.Flow.{Lawful}
use Rattle.layers.specs.Present.{present_net, Standing}
use Rattle.layers.specs.declared.entry.Entry.{Entry}
use Rattle.acts.specs.Changes.{change_of, asked, answer_to, after_ask}
use Rattle.acts.specs.Lines.{accepted_line, refused_line, act_line}
use Rattle.acts.specs.declared.change.Change.{Change}
use Rattle.listing.specs.Shows.{Matching, Lists}
use Rattle.listing.specs.Listing.{listing_told}
use Rattle.listing.specs.declared.refusal.ListingRefusal.{ListingRefusal}
use Rattle.listing.specs.declared.refusal.ListingRefusal.TheVariants.{Short, Differ, NoFlow}

-- what stands after an act, by the change that it asks for; a query asks for none
abbrev pub after_change : Net → Key → List Entry → Option Change → List Entry
after_change g key es None = es
after_change g key es (Some c) = after_ask g es (asked key c)

-- what stands after some acts, beginning with these entries
abbrev pub after_acts : Net → Key → List Entry → List Act → List Entry
after_acts g key es [] = es
after_acts g key es (a ∷ acts) = after_acts g key (after_change g key es (change_of a)) acts

-- what stands when the act at place k is run, on a fresh layer
abbrev pub standing_at : Net → Key → List Act → ℕ → List Entry
standing_at g key acts k = after_acts g key [] (take k acts)

-- What a query finds: a lawful flow and the listing; labels that are not those of the legend; or no lawful flow.
abbrev pub Finds : Net → Key → Labelled → Result (List ℕ) ListingRefusal → Type 0
Finds g key l (Ok bytes) = ((f : List ℕ) × Lawful g f) × Lists g key l bytes
Finds g key l (Err Short) = ⊥
Finds g key l (Err Differ) = Matching key l → ⊥
Finds g key l (Err (NoFlow d s)) = Matching key l × ((f : List ℕ) → Lawful g f → ⊥)

-- the line of a query with this number, and the listing behind it
abbrev pub query_text : ℕ → Result (List ℕ) ListingRefusal → List ℕ
query_text number (Ok bytes) = accepted_line number ++ bytes
query_text number (Err r) = refused_line number (listing_told r).0

-- a query, over the network with the present bounds
pub record Queried (g : Net) (key : Key) (l : Labelled) (number : ℕ) (bytes : List ℕ) : Type 0 where
  pub answer : Result (List ℕ) ListingRefusal
  pub finds : Finds g key l answer
  pub text : bytes ≡ query_text number answer

-- What the act with this number prints while these entries stand.
abbrev pub Prints : Net → Key → Labelled → ℕ → List Entry → Option Change → List ℕ → Type 0
Prints g key l number es (Some c) bytes = bytes ≡ act_line number (answer_to g es (asked key c))
Prints g key l number es None bytes = Queried (present_net g es) key l number bytes

-- The transcript: what each act prints, numbered from 1, one behind the other; each is run while entries stand that can stand.
pub record Transcript (g : Net) (key : Key) (l : Labelled) (acts : List Act) (bytes : List ℕ) : Type 0 where
  pub lines : List (List ℕ)
  pub long : length lines ≡ length acts
  pub each : (k : ℕ) → k < length acts → Prints g key l (k + 1) (standing_at g key acts k) (change_of (slice_index_or acts k Query)) (slice_index_or lines k [])
  pub stands : (k : ℕ) → k < length acts → Standing g (standing_at g key acts k)
  pub text : bytes ≡ flat_map (λ x. x) lines
