-- What a set of nodes takes in and gives out, summed over its nodes and over the lines at its border.
use Rattle.std.proofs.Common.{◌≡◌, ℕ, ◌+◌, ◌*◌, ◌<◌, ◌≤◌, Bool, true, cond, not, ◌&&◌, eqb, sym, refl, ap, ◌∙◌, arith}
use Rattle.std.proofs.lemmas.Bool.{cond_both, eq-eqb, ne_eqb}
use Rattle.network.specs.Sum.{upto}
use Rattle.network.specs.Net.{Net, Line, Limits, size, line, tail, head}
use Rattle.network.specs.Flow.{over, into, from, entering, leaving}
use Rattle.flows.proofs.Sums.{upto_le, upto_bound, upto_but, upto_same, upto_add, upto_only, upto_swap, upto_cond}

cond_le : (b : Bool) (x y : ℕ) → (b ≡ true → x ≤ y) → cond b x 0 ≤ cond b y 0
cond_le b x y h = grind arith

-- summed over the nodes of a set
abbrev pub sum_in : Net → (ℕ → Bool) → (ℕ → ℕ) → ℕ
sum_in g R h = upto g.nodes (λ v. cond (R v) (h v) 0)

-- an amount that stands at one node counts if the node is in the set
at_node : (n : ℕ) (R : ℕ → Bool) (k x : ℕ) → k < n → upto n (λ v. cond (R v) (cond (eqb k v) x 0) 0) ≡ cond (R k) x 0
at_node n R k x l =
    upto_only n k (λ v. cond (R v) (cond (eqb k v) x 0) 0) l
    (λ i _ e.
    ap (λ b. cond (R i) (cond b x 0) 0) (ne_eqb k i (λ q. e (sym q)))
    ∙ cond_both {A = ℕ} (R i) 0 0 (λ y. y ≡ 0) (λ _. refl) (λ _. refl))
    ∙ ap (λ b. cond (R k) (cond b x 0) 0) (eq-eqb k k refl)

-- what the nodes of a set have at one end of the lines is what the lines with that end in the set carry
ends : (g : Net) (end : Line → ℕ) → ((i : ℕ) → i < size g → end (line g i) < g.nodes) → (f : ℕ → ℕ) (R : ℕ → Bool)
    → sum_in g R (λ v. over g (λ l. eqb (end l) v) f) ≡ over g (λ l. R (end l)) f
ends g end fit f R =
    upto_same g.nodes _ _ (λ v _. sym (upto_cond (size g) (R v) (λ i. cond (eqb (end (line g i)) v) (f i) 0)))
    ∙ upto_swap g.nodes (size g) (λ v i. cond (R v) (cond (eqb (end (line g i)) v) (f i) 0) 0)
    ∙ upto_same (size g) _ _ (λ i l. at_node g.nodes R (end (line g i)) (f i) (fit i l))

inner : (ℕ → Bool) → Line → Bool
inner R l = R (head l) && R (tail l)

-- whatever the amounts: what enters a set and what its nodes give out is what leaves the set and what its nodes take in
pub border : (g : Net) → Limits g → (f : ℕ → ℕ) (R : ℕ → Bool)
    → over g (entering R) f + sum_in g R (λ v. over g (from v) f) ≡ over g (leaving R) f + sum_in g R (λ v. over g (into v) f)
unfolding inner
border g lim f R =
    omega (
      arith,
      ends g head (λ i l. (lim.each i l).head) f R,
      ends g tail (λ i l. (lim.each i l).tail) f R,
      upto_same (size g) (λ i. cond (R (head (line g i))) (f i) 0) _
          (λ i _. head_side (R (head (line g i))) (R (tail (line g i))) (f i)),
      upto_add (size g) (λ i. cond (entering R (line g i)) (f i) 0) (λ i. cond (inner R (line g i)) (f i) 0),
      upto_same (size g) (λ i. cond (R (tail (line g i))) (f i) 0) _
          (λ i _. tail_side (R (head (line g i))) (R (tail (line g i))) (f i)),
      upto_add (size g) (λ i. cond (leaving R (line g i)) (f i) 0) (λ i. cond (inner R (line g i)) (f i) 0),
    )
  where
    head_side : (h t : Bool) (x : ℕ) → cond h x 0 ≡ cond (h && not t) x 0 + cond (h && t) x 0
    head_side h t x = grind arith

    tail_side : (h t : Bool) (x : ℕ) → cond t x 0 ≡ cond (t && not h) x 0 + cond (h && t) x 0
    tail_side h t x = grind arith

-- amounts in order on the lines that pass a test are in order summed
pub over_le : (g : Net) (p : Line → Bool) (f h : ℕ → ℕ) → ((i : ℕ) → i < size g → p (line g i) ≡ true → f i ≤ h i)
    → over g p f ≤ over g p h
over_le g p f h k = upto_le (size g) _ _ (λ i l. cond_le (p (line g i)) (f i) (h i) (k i l))

-- the same for all lines but one
pub over_but : (g : Net) (p : Line → Bool) (f h : ℕ → ℕ) (l : ℕ) → l < size g → p (line g l) ≡ true
    → ((i : ℕ) → i < size g → (i ≡ l → ⊥) → p (line g i) ≡ true → f i ≤ h i) → over g p f + h l ≤ over g p h + f l
over_but g p f h l m e k =
    omega (
      arith,
      upto_but (size g) l (λ i. cond (p (line g i)) (f i) 0) (λ i. cond (p (line g i)) (h i) 0) m
          (λ i j d. cond_le (p (line g i)) (f i) (h i) (k i j d)),
      ap (λ b. cond b (f l) 0) e,
      ap (λ b. cond b (h l) 0) e,
    )

-- amounts that are each at most x, summed over the lines that pass a test
pub over_bound : (g : Net) (p : Line → Bool) (f : ℕ → ℕ) (x : ℕ) → ((i : ℕ) → i < size g → f i ≤ x) → over g p f ≤ size g * x
over_bound g p f x h = upto_bound (size g) _ x (λ i l. at_most (p (line g i)) (f i) (h i l))
  where
    at_most : (b : Bool) (y : ℕ) → y ≤ x → cond b y 0 ≤ x
    at_most b y k = grind arith
