-- Networks of the same meaning have the same lawful flows, bottlenecks, fixed lines and free lines.
use Rattle.std.proofs.Common.{◌≡◌, ℕ, ◌<◌, Bool, cond, not, ◌&&◌, eqb, List, sym, refl, ap, ◌∙◌, subst, arith}
use Rattle.network.specs.Sum.{upto}
use Rattle.network.specs.Net.{Net, Same, size, line, tail, head, least, most}
use Rattle.network.specs.Flow.{at, over, demand, supply, Bottleneck, Lawful, Fixed, Free}
use Rattle.flows.proofs.Sums.{upto_same}
use Rattle.flows.proofs.Lawful.{fixed_once, exclusive}

pub same_refl : (m : Net) → Same m m
same_refl m =
    record { nodes = refl; count = refl; tails = λ _ _. refl; heads = λ _ _. refl; leasts = λ _ _. refl; mosts = λ _ _. refl }

module _ {m n : Net} (s : Same m n) where
  back : {k : ℕ} → k < size n → k < size m
  back l = omega (arith, s.count)

  pub same_sym : Same n m
  same_sym =
      record {
        nodes = sym s.nodes;
        count = sym s.count;
        tails = λ k l. sym (s.tails k (back l));
        heads = λ k l. sym (s.heads k (back l));
        leasts = λ k l. sym (s.leasts k (back l));
        mosts = λ k l. sym (s.mosts k (back l));
      }

  pub same_trans : {o : Net} → Same n o → Same m o
  same_trans t =
      record {
        nodes = s.nodes ∙ t.nodes;
        count = s.count ∙ t.count;
        tails = λ k l. s.tails k l ∙ t.tails k (omega (arith, s.count));
        heads = λ k l. s.heads k l ∙ t.heads k (omega (arith, s.count));
        leasts = λ k l. s.leasts k l ∙ t.leasts k (omega (arith, s.count));
        mosts = λ k l. s.mosts k l ∙ t.mosts k (omega (arith, s.count));
      }

  -- sums over lines picked by their ends
  over_same : (p : ℕ → ℕ → Bool) (f h : ℕ → ℕ) → ((k : ℕ) → k < size m → f k ≡ h k)
      → over m (λ l. p (tail l) (head l)) f ≡ over n (λ l. p (tail l) (head l)) h
  over_same p f h e =
      upto_same (size m) (λ k. cond (p (tail (line m k)) (head (line m k))) (f k) 0) (λ k. cond (p (tail (line n k)) (head (line n k))) (h k) 0)
      (λ k l. cc (s.tails k l, s.heads k l, e k l))
      ∙ ap (λ c. upto c (λ k. cond (p (tail (line n k)) (head (line n k))) (h k) 0)) s.count

  pub lawful_same : (f : List ℕ) → Lawful m f → Lawful n f
  lawful_same f law =
      record {
        long = law.long ∙ s.count;
        low = λ k l. omega (arith, s.leasts k (back l), law.low k (back l));
        high = λ k l. omega (arith, s.mosts k (back l), law.high k (back l));
        kept =
            λ v l.
            sym (over_same (λ _ h. eqb h v) (at f) (at f) (λ _ _. refl))
            ∙ law.kept v (omega (arith, s.nodes))
            ∙ over_same (λ t _. eqb t v) (at f) (at f) (λ _ _. refl);
      }

  pub demand_same : (R : ℕ → Bool) → demand m R ≡ demand n R
  demand_same R = over_same (λ t h. R h && not (R t)) (λ k. least (line m k)) (λ k. least (line n k)) s.leasts

  pub supply_same : (R : ℕ → Bool) → supply m R ≡ supply n R
  supply_same R = over_same (λ t h. R t && not (R h)) (λ k. most (line m k)) (λ k. most (line n k)) s.mosts

  pub bottleneck_same : (R : ℕ → Bool) → Bottleneck m R → Bottleneck n R
  bottleneck_same R b = omega (arith, demand_same R, supply_same R)

module _ {m n : Net} (s : Same m n) (l : ℕ) where
  pub fixed_same : (x : ℕ) → Fixed m l x → Fixed n l x
  fixed_same x fixed f law = fixed f (lawful_same (same_sym s) f law)

  pub free_same : (x : ℕ) → Free m l x → Free n l x
  free_same x free = (free.0, (lawful_same s free.0 free.1.0, free.1.1))

  -- a line that is fixed in one is not free, from the amount of a lawful flow, in the other
  pub verdict_agree : (x : ℕ) (f : List ℕ) → Lawful n f → Fixed m l x → Free n l (at f l) → ⊥
  verdict_agree x f law p q = exclusive n l (at f l) (subst (Fixed n l) (sym (fixed_same x p f law)) (fixed_same x p)) q

  -- where there is a lawful flow, a line that is fixed in both is fixed at one amount
  pub fixed_agree : (x y : ℕ) (f : List ℕ) → Lawful m f → Fixed m l x → Fixed n l y → x ≡ y
  fixed_agree x y f law p q = fixed_once n l x y f (lawful_same s f law) (fixed_same x p) q
