-- What a sift shows of one network it shows of every network of the same meaning.
use Rattle.std.proofs.Common.{◌≡◌, ℕ, ◌<◌, List, take, replicate, Ok, Err, Result, ◌∙◌, subst, inl, inr, ⊎_elim, arith}
use Rattle.network.specs.Net.{Net, Same, size}
use Rattle.network.specs.Flow.{Lawful, Bottleneck, demand, supply, at}
use Rattle.flows.proofs.Same.{same_sym, lawful_same, bottleneck_same, demand_same, supply_same, fixed_same, free_same}
use Rattle.verdicts.specs.Verdicts.{Verdict}
use Rattle.sift.specs.Workspace.{Workspace, Cleared, no_step}
use Rattle.sift.specs.Sifted.{Accepted, Refused, Done, shown}
use Rattle.sift.specs.declared.refusal.SiftRefusal.{SiftRefusal}
use Rattle.sift.specs.declared.refusal.SiftRefusal.TheVariants.{Short, NoFlow}

module _ (m n : Net) (s : Same m n) where
  inside : (i : ℕ) → i < size n → i < size m
  inside i h = omega (arith, s.count)

  cleared_same : (w : Workspace) → Cleared m w → Cleared n w
  cleared_same w c = record {
    marks = subst (λ k. take k w.marks ≡ replicate k 0) s.nodes c.marks;
    nodes = subst (λ k. take k w.nodes ≡ replicate k 0) s.nodes c.nodes;
    steps = subst (λ k. take k w.steps ≡ replicate k no_step) s.nodes c.steps;
  }

  verdict_same : (f : List ℕ) (i v : ℕ) → Verdict m f i v → Verdict n f i v
  verdict_same f i v = ⊎_elim (λ p. inl (p.0, fixed_same s i (at f i) p.1)) (λ p. inr (p.0, free_same s i (at f i) p.1))

  accepted_same : (w : Workspace) → Accepted m w → Accepted n w
  accepted_same w a = record {
    lawful = lawful_same s _ (subst (λ k. Lawful m (take k w.flow)) s.count a.lawful);
    verdicts = λ i h. verdict_same w.flow i _ (a.verdicts i (inside i h));
    bottleneck = subst (λ k. take k w.bottleneck ≡ replicate k 0) s.nodes a.bottleneck;
  }

  refused_same : (w : Workspace) (d u : ℕ) → Refused m w d u → Refused n w d u
  refused_same w d u r =
      record {
        none = λ f law. r.none f (lawful_same (same_sym s) f law);
        bytes = λ v h. r.bytes v (omega (arith, s.nodes));
        bottleneck = bottleneck_same s (shown (take n.nodes w.bottleneck)) (subst (λ k. Bottleneck m (shown (take k w.bottleneck))) s.nodes r.bottleneck);
        demand = subst (λ k. d ≡ demand m (shown (take k w.bottleneck))) s.nodes r.demand ∙ demand_same s (shown (take n.nodes w.bottleneck));
        supply = subst (λ k. u ≡ supply m (shown (take k w.bottleneck))) s.nodes r.supply ∙ supply_same s (shown (take n.nodes w.bottleneck));
        flow = subst (λ k. take k w.flow ≡ replicate k 0) s.count r.flow;
        verdicts = subst (λ k. take k w.verdicts ≡ replicate k 0) s.count r.verdicts;
      }

  pub done_same : (w : Workspace) (r : Result (Unit {0}) SiftRefusal) → Done m w r → Done n w r
  done_same w (Ok _) d = (accepted_same w d.0, cleared_same w d.1)
  done_same w (Err Short) d = d
  done_same w (Err (NoFlow x y)) d = (refused_same w x y d.0, cleared_same w d.1)
