-- What fixed and free lines of a job say of its lawful numberings under entries.
use Rattle.std.specs.Prelude.{◌≡◌, ℕ, ◌<◌, List, ◌≢◌}
use Rattle.network.specs.Net.{Net}
use Rattle.network.specs.Flow.{at, Lawful, Fixed, Free}
use Rattle.layers.specs.Present.{present_net}
use Rattle.layers.specs.declared.entry.Entry.{Entry}
use Rattle.series.specs.Job.{Job, part_count, sign_count, whole_net}
use Rattle.series.specs.Key.{pair_place}
use Rattle.series.specs.Numbering.{byte_at, unsigned}
use Rattle.solutions.specs.Obeyed.{LawfulUnder}

-- some lawful numbering under the entries has this byte at the part, or none has
abbrev pub SomeHas : Job → (lo hi : ℕ) → List Entry → (p b : ℕ) → Type 0
SomeHas job lo hi es p b = (bytes : List ℕ) × (LawfulUnder job lo hi es bytes × (byte_at bytes p ≡ b))

abbrev pub NoneHas : Job → (lo hi : ℕ) → List Entry → (p b : ℕ) → Type 0
NoneHas job lo hi es p b = (bytes : List ℕ) → LawfulUnder job lo hi es bytes → byte_at bytes p ≢ b

-- the part is signed in some of them, or in none
abbrev pub SomeSigns : Job → (lo hi : ℕ) → List Entry → ℕ → Type 0
SomeSigns job lo hi es p = (bytes : List ℕ) × (LawfulUnder job lo hi es bytes × (byte_at bytes p ≢ unsigned))

abbrev pub NoneSigns : Job → (lo hi : ℕ) → List Entry → ℕ → Type 0
NoneSigns job lo hi es p = (bytes : List ℕ) → LawfulUnder job lo hi es bytes → byte_at bytes p ≡ unsigned

-- A sign whose pair line is fixed at 0 is that part's sign in no lawful numbering under the entries, and any other is in some:
-- for optional parts exactly as for required ones. A part whose line is fixed at 1 is signed in all of them, one fixed at 0 in
-- none, one that is free in some and not in others. The flow f is any lawful one.
pub record OffersTold (job : Job) (lo hi : ℕ) (es : List Entry) (g : Net) : Type 0 where
  pub shut : (p s : ℕ) → p < part_count job → s < sign_count job → Fixed g (pair_place job p s) 0 → NoneHas job lo hi es p s
  pub carried : (p s : ℕ) → p < part_count job → s < sign_count job → (f : List ℕ) → Lawful g f → 0 < at f (pair_place job p s) → SomeHas job lo hi es p s
  pub loose : (p s : ℕ) → p < part_count job → s < sign_count job → (f : List ℕ) → Lawful g f → Free g (pair_place job p s) (at f (pair_place job p s)) → SomeHas job lo hi es p s
  pub always : (p : ℕ) → p < part_count job → Fixed g p 1 → NoneHas job lo hi es p unsigned
  pub never : (p : ℕ) → p < part_count job → Fixed g p 0 → NoneSigns job lo hi es p
  pub sometimes : (p : ℕ) → p < part_count job → (f : List ℕ) → Lawful g f → Free g p (at f p) → SomeSigns job lo hi es p × SomeHas job lo hi es p unsigned

-- this holds of the network of the whole job under the entries
abbrev pub Offers : Job → (lo hi : ℕ) → List Entry → Type 0
Offers job lo hi es = OffersTold job lo hi es (present_net (whole_net job lo hi) es)
