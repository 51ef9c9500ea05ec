-- What the numbering call answers on any legend, and what the memory lent to it holds then.
use Rattle.std.specs.Prelude.{◌≡◌, ℕ, ◌<◌, ◌≤◌, ◌⊎◌, List, ◌++◌, length, drop, Ok, Err, Result}
use Rattle.network.specs.Key.{Key}
use Rattle.network.specs.Net.{Net}
use Rattle.sift.specs.Sifted.{Sifted}
use Rattle.sift.specs.Workspace.{Workspace, Short}
use Rattle.sift.specs.declared.refusal.SiftRefusal.{SiftRefusal}
use Rattle.sift.specs.declared.refusal.SiftRefusal.TheVariants.{Short as TooShort, NoFlow}
use Rattle.solutions.specs.Carried.{numbering_of}

-- Accepted: the buffers are those of an accepted sift, and the first bytes, one for each part, are the numbering of the flow that
-- it shows; the others are kept.
pub record Numbered (g : Net) (key : Key) (before after : Workspace) (bytes bytes' : List ℕ) : Type 0 where
  pub long : key.parts ≤ length bytes
  pub sifted : Sifted g before after (Ok tt)
  pub written : bytes' ≡ numbering_of key after.flow ++ drop key.parts bytes

-- Refused, since there is no lawful flow: the buffers are those of a refused sift, and the bytes are as they were.
pub record Unnumbered (g : Net) (key : Key) (before after : Workspace) (bytes bytes' : List ℕ) (d s : ℕ) : Type 0 where
  pub long : key.parts ≤ length bytes
  pub sifted : Sifted g before after (Err (NoFlow d s))
  pub kept : bytes' ≡ bytes

-- Refused, since the bytes or a buffer of the sift are short: nothing changes.
pub record Lacking (g : Net) (key : Key) (before after : Workspace) (bytes bytes' : List ℕ) : Type 0 where
  pub short : (length bytes < key.parts) ⊎ Short g before
  pub same : after ≡ before
  pub kept : bytes' ≡ bytes

abbrev pub Numbers : Net → Key → (before after : Workspace) → (bytes bytes' : List ℕ) → Result (Unit {0}) SiftRefusal → Type 0
Numbers g key before after bytes bytes' (Ok _) = Numbered g key before after bytes bytes'
Numbers g key before after bytes bytes' (Err TooShort) = Lacking g key before after bytes bytes'
Numbers g key before after bytes bytes' (Err (NoFlow d s)) = Unnumbered g key before after bytes bytes' d s
