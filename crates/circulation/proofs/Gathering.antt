-- The flow that a circulation starts from.
use Rattle.std.proofs.Common.{◌≡◌, ℕ, ◌+◌, ◌<◌, Bool, cond, eqb, List, length, set, sym, ap, ◌∙◌, inl, inr, arith}
use Rattle.std.proofs.lemmas.List.{get_or-set_same, get_or-set_other}
use Rattle.std.proofs.lemmas.Bool.{cases_eq, eq-eqb, ne_eqb}
use Rattle.network.specs.Net.{Net, Line, Limits, size, line, tail, head, least}
use Rattle.network.specs.Flow.{at, over, into, from}
use Rattle.flows.specs.Bounds.{Mending}
use Rattle.network.proofs.Counting.{upto_more}
use Rattle.flows.proofs.Sums.{upto_same}
use Rattle.circulation.specs.Summed.{summed}
use Rattle.circulation.specs.Gathering.{Gathered, SameDifference}
use Rattle.circulation.proofs.Sums.{summed_small}

-- one line more, at one of its ends
ends_more : (g : Net) (end : Line → ℕ) (k : ℕ) (xs : List ℕ) → end (line g k) < length xs
    → ((v : ℕ) → v < g.nodes → at xs v ≡ summed g least (λ l. eqb (end l) v) k)
    → (v : ℕ) → v < g.nodes → at (set xs (end (line g k)) (at xs (end (line g k)) + least (line g k))) v ≡ summed g least (λ l. eqb (end l) v) (k + 1)
ends_more g end k xs inside sums v l =
    elim (cases_eq v (end (line g k))) [
      | inl e ↦
          omega (
            arith,
            ap (at (set xs (end (line g k)) (at xs (end (line g k)) + least (line g k)))) e,
            get_or-set_same xs (end (line g k)) (at xs (end (line g k)) + least (line g k)) 0 inside,
            ap (at xs) e,
            sums v l,
            upto_more k (λ i. cond (eqb (end (line g i)) v) (least (line g i)) 0),
            ap (λ b. cond b (least (line g k)) 0) (eq-eqb (end (line g k)) v (sym e)),
          )
      | inr e ↦
          omega (
            arith,
            get_or-set_other xs (end (line g k)) v (at xs (end (line g k)) + least (line g k)) 0 e,
            sums v l,
            upto_more k (λ i. cond (eqb (end (line g i)) v) (least (line g i)) 0),
            ap (λ b. cond b (least (line g k)) 0) (ne_eqb (end (line g k)) v (λ q. e (sym q))),
          )
    ]

pub gathered_none : (g : Net) (entered left : List ℕ) → ((v : ℕ) → v < g.nodes → at entered v ≡ 0) → ((v : ℕ) → v < g.nodes → at left v ≡ 0)
    → Gathered g 0 entered left
gathered_none g entered left p q = record { heads = p; tails = q }

module _ {g : Net} {k : ℕ} {entered left : List ℕ} (now : Gathered g k entered left) where
  -- the line at place k adds its least at both ends, and there is room for it
  module _ (lim : Limits g) (inside : k < size g) (v x : ℕ) (amount : least (line g k) ≡ x) where
    fits : (test : Line → Bool) → summed g least test k + x < 4294967296
    fits test = omega (arith, summed_small g least test k lim (λ i l. (lim.each i l).ordered) inside)

    pub head_fits : head (line g k) ≡ v → (v < g.nodes) × (at entered v + x < 4294967296)
    head_fits e = let node : v < g.nodes = omega (arith, (lim.each k inside).head) in (node, omega (arith, now.heads v node, fits (into v)))

    pub tail_fits : tail (line g k) ≡ v → (v < g.nodes) × (at left v + x < 4294967296)
    tail_fits e = let node : v < g.nodes = omega (arith, (lim.each k inside).tail) in (node, omega (arith, now.tails v node, fits (from v)))

  pub gathered_more : (h t x : ℕ) → head (line g k) ≡ h → tail (line g k) ≡ t → least (line g k) ≡ x → h < length entered → t < length left
      → (entered' left' : List ℕ) → entered' ≡ set entered h (at entered h + x) → left' ≡ set left t (at left t + x) → Gathered g (k + 1) entered' left'
  gathered_more h t x eh et ex p q entered' left' a b =
      record {
        heads = λ v l. ap (λ xs. at xs v) (a ∙ same (head (line g k)) h eh entered) ∙ ends_more g head k entered (omega (arith, p)) now.heads v l;
        tails = λ v l. ap (λ xs. at xs v) (b ∙ same (tail (line g k)) t et left) ∙ ends_more g tail k left (omega (arith, q)) now.tails v l;
      }
    where
      same : (y z : ℕ) → y ≡ z → (xs : List ℕ) → set xs z (at xs z + x) ≡ set xs y (at xs y + least (line g k))
      same y z e xs = sym (ap (λ w. set xs w (at xs w + x)) e) ∙ ap (λ w. set xs y (at xs y + w)) (sym ex)

-- a flow at every line's least, with what enters and leaves settled, is on its way to a lawful one
pub mending_start : {g : Net} → Limits g → (flow entered left spare lack : List ℕ) → length flow ≡ size g
    → ((i : ℕ) → i < size g → at flow i ≡ least (line g i)) → (k : ℕ) → k ≡ size g → Gathered g k entered left → SameDifference g.nodes entered left spare lack
    → Mending g flow (at spare) (at lack)
mending_start {g} lim flow entered left spare lack long lowest k all h same =
    record {
      long = long;
      bounds =
          record {
            low = λ i l. omega (arith, lowest i l);
            high = λ i l. omega (arith, lowest i l, (lim.each i l).ordered);
          };
      balance = λ v l. omega (arith, sums (into v), sums (from v), h.heads v l, h.tails v l, same v l);
    }
  where
    sums : (test : Line → Bool) → over g test (at flow) ≡ summed g least test k
    sums test = upto_same (size g) _ _ (λ i l. ap (λ x. cond (test (line g i)) x 0) (lowest i l)) ∙ ap (λ m. summed g least test m) (sym all)
