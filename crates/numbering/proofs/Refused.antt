-- The numbering call passes the sift's refusal on.
use Rattle.std.proofs.Common.{ℕ, ◌≤◌, List, length, Err, refl, inr}
use Rattle.network.specs.Key.{Key}
use Rattle.network.specs.Net.{Net}
use Rattle.sift.specs.Sifted.{Sifted}
use Rattle.sift.specs.Workspace.{Workspace}
use Rattle.sift.specs.declared.refusal.SiftRefusal.{SiftRefusal}
use Rattle.sift.specs.declared.refusal.SiftRefusal.TheVariants.{Short, NoFlow}
use Rattle.numbering.specs.Numbered.{Numbers}

pub passed_on : (g : Net) (key : Key) (before after : Workspace) (bytes : List ℕ) (e : SiftRefusal) → key.parts ≤ length bytes → Sifted g before after (Err e) → Numbers g key before after bytes bytes (Err e)
passed_on g key before after bytes Short long sifted = record { short = inr sifted.0; same = sifted.1; kept = refl }
passed_on g key before after bytes (NoFlow d s) long sifted = record { long = long; sifted = sifted; kept = refl }
