-- The nodes that a search from the lacking nodes does not reach, one of them with something to spare, are a bottleneck.
use Rattle.std.proofs.Common.{◌≡◌, ℕ, ◌<◌, ◌≤◌, true, cond, ltb, ◌⊎◌, List, length, get_or, refl, ap, ◌∙◌, inl, inr, arith}
use Rattle.std.proofs.lemmas.Bool.{cases_lt, lt-ltb, le-ltb, eq-eqb, eqb-true}
use Rattle.network.specs.Net.{Net, Limits, line, tail, head}
use Rattle.network.specs.Flow.{at, demand, supply, Bottleneck}
use Rattle.flows.specs.Bounds.{Mending, AllShut}
use Rattle.flows.proofs.Mend.{stuck}
use Rattle.flows.proofs.Trails.{shut_by}
use Rattle.reach.specs.Levels.{level, Levelled}
use Rattle.circulation.specs.Answers.{members, Shows}

module _ (g : Net) (distance bytes : List ℕ) (marks : (v : ℕ) → v < g.nodes → get_or bytes v 0 ≡ cond (ltb (level distance v) g.nodes) 0 1) where
  -- a byte is 1 exactly where the node is not reached
  reached : (v : ℕ) → v < g.nodes → level distance v < g.nodes → get_or bytes v 0 ≡ 0
  reached v l h = marks v l ∙ ap (λ b. cond b 0 1) (lt-ltb (level distance v) g.nodes h)

  unreached : (v : ℕ) → v < g.nodes → g.nodes ≤ level distance v → get_or bytes v 0 ≡ 1
  unreached v l h = marks v l ∙ ap (λ b. cond b 0 1) (le-ltb (level distance v) g.nodes h)

  marks_binary : (v : ℕ) → v < g.nodes → (get_or bytes v 0 ≡ 0) ⊎ (get_or bytes v 0 ≡ 1)
  marks_binary v l = elim (cases_lt (level distance v) g.nodes) [ inl h ↦ inl (reached v l h) | inr h ↦ inr (unreached v l h) ]

  far : (v : ℕ) → v < g.nodes → members bytes v ≡ true → g.nodes ≤ level distance v
  far v l e =
      elim (cases_lt (level distance v) g.nodes) [ inl h ↦ absurd (omega (arith, reached v l h, eqb-true (get_or bytes v 0) 1 e)) | inr h ↦ h ]

  -- what cannot be reached from a member is a member
  member : (v : ℕ) → v < g.nodes → (level distance v < g.nodes → ⊥) → members bytes v ≡ true
  member v l h =
      eq-eqb (get_or bytes v 0) 1
      (elim (cases_lt (level distance v) g.nodes) [ inl m ↦ absurd (h m) | inr m ↦ unreached v l m ])

  pub unreached_bottleneck : Limits g → (flow spare lack : List ℕ) → Mending g flow (at spare) (at lack) → Levelled g (at flow) (at lack) distance
      → (v : ℕ) → v < g.nodes → 0 < at spare v → g.nodes ≤ level distance v → Bottleneck g (members bytes)
  unreached_bottleneck lim flow spare lack mending levels v l some out =
      stuck g lim (at flow) (at spare) (at lack) mending.balance (members bytes) shut full v l (member v l (λ h. omega arith)) some
    where
      shut : AllShut g (at flow) (members bytes)
      shut i m =
          shut_by (members bytes) (line g i) (at flow i)
          (λ e more.
          member (head (line g i)) (lim.each i m).head
          (λ h.
          let gone = far (tail (line g i)) (lim.each i m).tail e in
          omega (arith, (levels.finished (head (line g i)) (lim.each i m).head h).along i m refl more)))
          (λ e less.
          member (tail (line g i)) (lim.each i m).tail
          (λ h.
          let gone = far (head (line g i)) (lim.each i m).head e in
          omega (arith, (levels.finished (tail (line g i)) (lim.each i m).tail h).against i m refl less)))

      full : (w : ℕ) → w < g.nodes → members bytes w ≡ true → at lack w ≡ 0
      full w m e =
          elim (cases_lt 0 (at lack w)) [
            | inl h ↦ let gone = far w m e in absurd (omega (arith, levels.lacking w m h))
            | inr h ↦ omega arith
          ]

  -- so the bytes, with the sums, show a bottleneck
  pub shown : length bytes ≡ g.nodes → Bottleneck g (members bytes) → (demanded supplied : ℕ) → demanded ≡ demand g (members bytes)
      → supplied ≡ supply g (members bytes) → Shows g bytes demanded supplied
  shown long narrow demanded supplied d s =
      record { binary = λ v l. marks_binary v (omega arith); bottleneck = narrow; demand = d; supply = s }
