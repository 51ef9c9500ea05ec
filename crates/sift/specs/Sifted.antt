-- What a sift answers, and what the memory lent to it holds then.
use Rattle.std.specs.Prelude.{◌≡◌, ℕ, ◌<◌, Bool, ◌⊎◌, List, take, replicate, Some, None, Ok, Err, Option, Result, ◌==◌, slice_index}
use Rattle.network.specs.Net.{Net, size}
use Rattle.network.specs.Flow.{Lawful, Bottleneck, demand, supply}
use Rattle.verdicts.specs.Verdicts.{Verdicts}
use Rattle.sift.specs.Workspace.{Workspace, Short, SurplusKept, Cleared}
use Rattle.sift.specs.declared.refusal.SiftRefusal.{SiftRefusal}
use Rattle.sift.specs.declared.refusal.SiftRefusal.TheVariants.{Short as TooShort, NoFlow}

-- The number of each refusal, and what it tells: demand and supply of a bottleneck.
abbrev pub sift_told : SiftRefusal → ℕ × Option (ℕ × ℕ)
sift_told TooShort = (1, None)
sift_told (NoFlow d s) = (20, Some (d, s))

-- the set of nodes that bytes show: those with a 1
abbrev pub shown : List ℕ → ℕ → Bool
shown bytes v = slice_index bytes v == 1

-- Accepted: a lawful flow, which one is left open, and a verdict for each line; zeros for the bottleneck.
pub record Accepted (g : Net) (w : Workspace) : Type 0 where
  pub lawful : Lawful g (take (size g) w.flow)
  pub verdicts : Verdicts g w.flow w.verdicts
  pub bottleneck : take g.nodes w.bottleneck ≡ replicate g.nodes 0

-- Refused, since there is no lawful flow: a bottleneck, which one is left open, with its demand and supply; zeros elsewhere.
pub record Refused (g : Net) (w : Workspace) (d s : ℕ) : Type 0 where
  pub none : (f : List ℕ) → Lawful g f → ⊥
  pub bytes : (v : ℕ) → v < g.nodes → (slice_index w.bottleneck v ≡ 0) ⊎ (slice_index w.bottleneck v ≡ 1)
  pub bottleneck : Bottleneck g (shown (take g.nodes w.bottleneck))
  pub demand : d ≡ demand g (shown (take g.nodes w.bottleneck))
  pub supply : s ≡ supply g (shown (take g.nodes w.bottleneck))
  pub flow : take (size g) w.flow ≡ replicate (size g) 0
  pub verdicts : take (size g) w.verdicts ≡ replicate (size g) 0

-- what a sift leaves that has memory enough
abbrev pub Done : Net → Workspace → Result (Unit {0}) SiftRefusal → Type 0
Done g w (Ok _) = Accepted g w × Cleared g w
Done g w (Err TooShort) = ⊥
Done g w (Err (NoFlow d s)) = Refused g w d s × Cleared g w

-- what a sift does that has memory enough
pub record Ran (g : Net) (before after : Workspace) (Answer : Type 0) : Type 0 where
  pub enough : Short g before → ⊥
  pub answer : Answer
  pub cleared : Cleared g after
  pub surplus : SurplusKept g before after

-- What a sift does: short of memory, nothing changes; else it is accepted or refused as lawful flows exist or not.
abbrev pub Sifted : Net → Workspace → Workspace → Result (Unit {0}) SiftRefusal → Type 0
Sifted g before after (Ok _) = Ran g before after (Accepted g after)
Sifted g before after (Err TooShort) = Short g before × (after ≡ before)
Sifted g before after (Err (NoFlow d s)) = Ran g before after (Refused g after d s)
