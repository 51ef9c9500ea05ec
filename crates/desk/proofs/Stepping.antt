-- One act is a step of the transcript.
use Rattle.std.proofs.Common.{◌≡◌, ℕ, ◌≤◌, List, ◌++◌, length, Ok, Err, Option, Result, refl, ap, ◌∙◌, subst, append_assoc, arith}
use Rattle.std.specs.declared.alloc.AllocError.{AllocError}
use Rattle.contents.specs.Labels.{Labelled}
use Rattle.network.specs.Net.{Net}
use Rattle.network.specs.Key.{Key}
use Rattle.layers.specs.Entries.{net_under}
use Rattle.layers.specs.Present.{Standing, present_net}
use Rattle.layers.specs.declared.entry.Entry.{Entry}
use Rattle.layers.proofs.Standing.{standing_net}
use Rattle.acts.specs.declared.change.Change.{Change}
use Rattle.listing.specs.declared.refusal.ListingRefusal.{ListingRefusal}
use Rattle.listing.specs.declared.refusal.ListingRefusal.TheVariants.{Short, Differ, NoFlow}
use Rattle.desk.specs.Transcript.{Finds, Queried, Prints, after_change, query_text}
use Rattle.desk.specs.Steps.{Appended, ListsIn, Steps}

pub appended_then : (before mid after xs ys : List ℕ) (r : Result (Unit {0}) AllocError) → mid ≡ before ++ xs → Appended mid after ys r → Appended before after (xs ++ ys) r
appended_then before mid after xs ys (Ok _) e a = a ∙ ap (λ z. z ++ ys) e ∙ append_assoc before xs ys
appended_then before mid after xs ys (Err _) e a = tt

module _ (g : Net) (key : Key) (l : Labelled) (number : ℕ) where
  pub steps_from : (change : Option Change) (before after : List Entry) (so_far then bytes : List ℕ) (r : Result (Unit {0}) AllocError) → Appended so_far then bytes r → Prints g key l number before change bytes → after ≡ after_change g key before change → Standing g after
      → Steps g key l number change before after so_far then r
  steps_from change before after so_far then bytes (Ok _) a p left s = record { bytes = bytes; prints = p; left = left; stands = s; text = a }
  steps_from change before after so_far then bytes (Err _) a p left s = tt

  -- a query that was answered on the layer
  pub queried : (es : List Entry) → Standing g es → (answer : Result (List ℕ) ListingRefusal) → Finds (net_under g es) key l answer → Queried (present_net g es) key l number (query_text number answer)
  queried es s answer f =
      record { answer = answer; finds = subst (λ n. Finds n key l answer) (standing_net g es s) f; text = refl }

-- a refusal of a listing in a text that is long enough
pub finds_refusal : (g : Net) (key : Key) (l : Labelled) (text text' : List ℕ) (x : ListingRefusal) → 40960 ≤ length text → ListsIn g key l text text' (Err x) → Finds g key l (Err x)
finds_refusal g key l text text' Short long h = omega arith
finds_refusal g key l text text' Differ long h = h
finds_refusal g key l text text' (NoFlow d s) long h = h
