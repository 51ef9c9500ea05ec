-- Two sifts of networks of the same meaning, neither short of memory, agree.
use Rattle.std.proofs.Common.{◌≡◌, ℕ, ◌<◌, get_or, Ok, Err, Result, sym, refl, ◌∙◌, subst, ⊎_elim, arith, get_or-take}
use Rattle.network.specs.Net.{Net, Same, size}
use Rattle.network.specs.Flow.{Fixed, Free, at}
use Rattle.flows.proofs.Same.{same_sym, lawful_same, fixed_same, verdict_agree}
use Rattle.std.proofs.lemmas.Bool.{false≢true}
use Rattle.sift.specs.Workspace.{Workspace}
use Rattle.sift.specs.Sifted.{Sifted, Accepted}
use Rattle.verdicts.specs.Verdicts.{Verdict}
use Rattle.sift.specs.declared.refusal.SiftRefusal.{SiftRefusal}
use Rattle.sift.specs.declared.refusal.SiftRefusal.TheVariants.{Short, NoFlow}
use Rattle.session.specs.Promise.{Agree}

module _ (g h : Net) (s : Same g h) (v w : Workspace) (a : Accepted g v) (b : Accepted h w) (l : ℕ) (inside : l < size g) where
  there : l < size h
  there = omega (arith, s.count)

  -- what each of the two says of the line
  first : Verdict g v.flow l (get_or v.verdicts l 0)
  first = a.verdicts l inside

  second : Verdict h w.flow l (get_or w.verdicts l 0)
  second = b.verdicts l there

  not_free_too : Fixed g l (at v.flow l) → Free h l (at w.flow l) → ⊥
  not_free_too fixed free =
      verdict_agree s l (at v.flow l) _ b.lawful fixed (subst (Free h l) (sym (get_or-take (size h) w.flow l 0 there)) free)

  not_fixed_too : Free g l (at v.flow l) → Fixed h l (at w.flow l) → ⊥
  not_fixed_too free fixed =
      verdict_agree (same_sym s) l (at w.flow l) _ a.lawful fixed (subst (Free g l) (sym (get_or-take (size g) v.flow l 0 inside)) free)

  pub verdicts_agree : get_or v.verdicts l 0 ≡ get_or w.verdicts l 0
  verdicts_agree =
      ⊎_elim (λ p. ⊎_elim (λ q. p.0 ∙ sym q.0) (λ q. absurd (not_free_too p.1 q.1)) second) (λ p. ⊎_elim (λ q. absurd (not_fixed_too p.1 q.1)) (λ q. p.0 ∙ sym q.0) second) first

  pub amounts_agree : get_or v.verdicts l 0 ≡ 1 → at v.flow l ≡ at w.flow l
  amounts_agree e =
      ⊎_elim (λ p. sym (fixed_same s l (at v.flow l) p.1 _ b.lawful) ∙ get_or-take (size h) w.flow l 0 there) (λ p. absurd (omega (arith, p.0))) first

-- over networks of the same meaning
pub sifts_agree : (g h : Net) → Same g h → (v₀ v w₀ w : Workspace) (r q : Result (Unit {0}) SiftRefusal)
    → Sifted g v₀ v r → Sifted h w₀ w q → (r ≡ Err Short → ⊥) → (q ≡ Err Short → ⊥) → Agree g v w r q
sifts_agree g h s v₀ v w₀ w (Ok _) (Ok _) x y nr nq =
    record {
      flow = refl;
      verdicts = λ _ l i. verdicts_agree g h s v w x.answer y.answer l i;
      fixed = λ _ l i e. amounts_agree g h s v w x.answer y.answer l i e;
    }
sifts_agree g h s v₀ v w₀ w (Ok _) (Err (NoFlow d u)) x y nr nq = absurd (y.answer.none _ (lawful_same s _ x.answer.lawful))
sifts_agree g h s v₀ v w₀ w (Err (NoFlow d u)) (Ok _) x y nr nq =
    absurd (x.answer.none _ (lawful_same (same_sym s) _ y.answer.lawful))
sifts_agree g h s v₀ v w₀ w (Err (NoFlow d u)) (Err (NoFlow e t)) x y nr nq =
    record { flow = refl; verdicts = λ z _ _. absurd (false≢true z); fixed = λ z _ _ _. absurd (false≢true z) }
sifts_agree g h s v₀ v w₀ w (Err Short) q x y nr nq = absurd (nr refl)
sifts_agree g h s v₀ v w₀ w (Ok _) (Err Short) x y nr nq = absurd (nq refl)
sifts_agree g h s v₀ v w₀ w (Err (NoFlow d u)) (Err Short) x y nr nq = absurd (nq refl)
