-- A sift in memory of exactly the size that it needs: its parts, put together.
use Rattle.std.proofs.Common.{◌≡◌, ℕ, ◌<◌, ◌⊎◌, List, length, get_or, take, replicate, sym, ap, ◌∙◌, subst, arith}
use lib.ListN.{length-replicate}
use Rattle.std.proofs.lemmas.List.{take_all}
use Rattle.network.specs.Net.{Net, Limits, size}
use Rattle.network.specs.Flow.{Lawful, Bottleneck, demand, supply}
use Rattle.flows.proofs.Lawful.{bottleneck_excludes}
use Rattle.verdicts.specs.Verdicts.{Verdicts}
use Rattle.sift.specs.Workspace.{Workspace, Cleared, no_step}
use Rattle.sift.specs.Sifted.{Accepted, Refused, shown}

-- a whole list is its own front
whole : {X : Type 0} (n : ℕ) (xs : List X) → length xs ≡ n → take n xs ≡ xs
whole n xs e = take_all n xs (omega arith)

blank : {X : Type 0} (n : ℕ) (x : X) (xs : List X) → xs ≡ replicate n x → take n xs ≡ replicate n x
blank n x xs e = whole n xs (ap length e ∙ length-replicate n x) ∙ e

pub resized : {X : Type 0} (x : X) (k n : ℕ) → k ≡ n → replicate k x ≡ replicate n x
resized x k n e = ap (λ j. replicate j x) e

pub cleared_exact : (g : Net) (w : Workspace) → w.marks ≡ replicate g.nodes 0 → w.nodes ≡ replicate g.nodes 0 → w.steps ≡ replicate g.nodes no_step → Cleared g w
cleared_exact g w m n s = record { marks = blank _ _ _ m; nodes = blank _ _ _ n; steps = blank _ _ _ s }

pub accepted_exact : (g : Net) (w : Workspace) → Lawful g w.flow → Verdicts g w.flow w.verdicts → w.bottleneck ≡ replicate g.nodes 0 → Accepted g w
accepted_exact g w law told b =
    record { lawful = subst (Lawful g) (sym (whole (size g) w.flow law.long)) law; verdicts = told; bottleneck = blank _ _ _ b }

pub refused_exact : (g : Net) → Limits g → (w : Workspace) (d s : ℕ) → length w.bottleneck ≡ g.nodes
    → ((v : ℕ) → v < g.nodes → (get_or w.bottleneck v 0 ≡ 0) ⊎ (get_or w.bottleneck v 0 ≡ 1))
    → Bottleneck g (shown w.bottleneck) → d ≡ demand g (shown w.bottleneck) → s ≡ supply g (shown w.bottleneck)
    → w.flow ≡ replicate (size g) 0 → w.verdicts ≡ replicate (size g) 0 → Refused g w d s
refused_exact g lim w d s long bytes b ed es f v =
    let e = sym (whole g.nodes w.bottleneck long) in
    record {
      none = bottleneck_excludes g lim (shown w.bottleneck) b;
      bytes = bytes;
      bottleneck = subst (λ xs. Bottleneck g (shown xs)) e b;
      demand = ed ∙ ap (λ xs. demand g (shown xs)) e;
      supply = es ∙ ap (λ xs. supply g (shown xs)) e;
      flow = blank _ _ _ f;
      verdicts = blank _ _ _ v;
    }
