-- The loop that makes the calls: what it keeps from turn to turn.
use Rattle.std.proofs.Common.{◌≡◌, ℕ, ◌+◌, ◌<◌, ◌≤◌, ◌≢◌, List, [], ◌∷◌, ◌++◌, length, get_or, take, set, sym, refl, ap, ◌∙◌, subst, arith, length-set, get_or-set_other, get_or-set_same, below_more}
use Rattle.std.proofs.lemmas.List.{take_more}
use Rattle.network.specs.Net.{Net}
use Rattle.layers.specs.Present.{Standing}
use Rattle.layers.specs.declared.entry.Entry.{Entry}
use Rattle.session.specs.Log.{after_call, after_calls, standing}
use Rattle.session.specs.Promise.{Answered, no_turn}
use Rattle.session.specs.declared.turn.Turn.{Turn}

after_push : (g : Net) (es : List Entry) (ts : List Turn) (t : Turn) → after_calls g es (ts ++ t ∷ []) ≡ after_call g (after_calls g es ts) t.call
after_push g es [] t = refl
after_push g es (u ∷ ts) t = after_push g (after_call g es u.call) ts t

-- what stands one call later
pub standing_next : (g : Net) (ts : List Turn) (k : ℕ) → k < length ts → standing g ts (k + 1) ≡ after_call g (standing g ts k) (get_or ts k no_turn).call
standing_next g ts k h = ap (after_calls g []) (take_more ts k no_turn h) ∙ after_push g [] (take k ts) (get_or ts k no_turn)

-- After i calls: the entries that stand are those of the log, the calls made are answered, the others wait.
pub record Going (g : Net) (before after : List Turn) (es : List Entry) (i : ℕ) : Type 0 where
  pub long : length after ≡ length before
  pub stands : Standing g es
  pub log : es ≡ standing g before i
  pub made : (k : ℕ) → k < i → Answered g (standing g before k) (get_or before k no_turn).call (get_or after k no_turn)
  pub waits : (k : ℕ) → i ≤ k → get_or after k no_turn ≡ get_or before k no_turn

module _ (g : Net) (before after : List Turn) (es : List Entry) (i : ℕ) (so_far : Going g before after es i) (inside : i < length before) where
  -- the turn that waits at i is the one that was given
  pub next_call : get_or after i no_turn ≡ get_or before i no_turn
  next_call = so_far.waits i (omega arith)

  pub goes_on : (t : Turn) (es' : List Entry) → Standing g es' → es' ≡ after_call g es (get_or before i no_turn).call → Answered g es (get_or before i no_turn).call t
      → Going g before (set after i t) es' (i + 1)
  goes_on t es' stands log answered =
      let there : i < length after = omega (arith, so_far.long) in
      record {
        long = simp length-set so_far.long;
        stands = stands;
        log = log ∙ ap (λ xs. after_call g xs (get_or before i no_turn).call) so_far.log ∙ sym (standing_next g before i inside);
        made = below_more _ _ (λ k l. let ne : k ≢ i = omega arith in subst (λ x. Answered g (standing g before k) (get_or before k no_turn).call x) (sym (get_or-set_other after i k t no_turn ne)) (so_far.made k l)) (subst (λ x. Answered g (standing g before i) (get_or before i no_turn).call x) (sym (get_or-set_same after i t no_turn there)) (subst (λ xs. Answered g xs (get_or before i no_turn).call t) so_far.log answered));
        waits = λ k l. let ne : k ≢ i = λ e. omega arith in get_or-set_other after i k t no_turn ne ∙ so_far.waits k (omega arith);
      }
