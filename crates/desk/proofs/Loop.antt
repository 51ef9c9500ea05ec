-- The loop over the acts: what it keeps from turn to turn.
use Rattle.std.proofs.Common.{◌≡◌, ℕ, ◌+◌, ◌<◌, ◌≢◌, List, [], ◌∷◌, ◌++◌, length, get_or, take, sym, refl, ap, ◌∙◌, subst, ⊎_elim, arith}
use Rattle.std.proofs.lemmas.List.{take_more, length_push, get_or_push, get_or_append_left, flat_map_more}
use Rattle.std.proofs.lemmas.Bool.{cases_eq}
use Rattle.std.specs.List.{flat_map}
use Rattle.contents.specs.Labels.{Labelled}
use Rattle.contents.specs.declared.act.Act.{Act}
use Rattle.contents.specs.declared.act.Act.TheVariants.{Query}
use Rattle.network.specs.Net.{Net}
use Rattle.network.specs.Key.{Key}
use Rattle.layers.specs.Present.{Standing}
use Rattle.layers.specs.declared.entry.Entry.{Entry}
use Rattle.layers.proofs.Standing.{standing_none}
use Rattle.acts.specs.Changes.{change_of}
use Rattle.desk.specs.Transcript.{after_change, after_acts, standing_at, Prints, Transcript}
use Rattle.desk.specs.Steps.{Stepped}

-- After i acts: the entries that stand are those of the log, and the transcript has what each act printed.
pub record Going (g : Net) (key : Key) (l : Labelled) (acts : List Act) (es : List Entry) (bytes : List ℕ) (i : ℕ) : Type 0 where
  pub stands : Standing g es
  pub log : es ≡ standing_at g key acts i
  pub stood : (k : ℕ) → k < i → Standing g (standing_at g key acts k)
  pub lines : List (List ℕ)
  pub long : length lines ≡ i
  pub each : (k : ℕ) → k < i → Prints g key l (k + 1) (standing_at g key acts k) (change_of (get_or acts k Query)) (get_or lines k [])
  pub text : bytes ≡ flat_map (λ x. x) lines

after_push : (g : Net) (key : Key) (es : List Entry) (acts : List Act) (a : Act) → after_acts g key es (acts ++ a ∷ []) ≡ after_change g key (after_acts g key es acts) (change_of a)
after_push g key es [] a = refl
after_push g key es (b ∷ acts) a = after_push g key (after_change g key es (change_of b)) acts a

-- what stands one act later
standing_next : (g : Net) (key : Key) (acts : List Act) (k : ℕ) → k < length acts → standing_at g key acts (k + 1) ≡ after_change g key (standing_at g key acts k) (change_of (get_or acts k Query))
standing_next g key acts k h = ap (after_acts g key []) (take_more acts k Query h) ∙ after_push g key [] (take k acts) (get_or acts k Query)

module _ (g : Net) (key : Key) (l : Labelled) (acts : List Act) where
  pub going_none : (es : List Entry) (bytes : List ℕ) → es ≡ [] → bytes ≡ [] → Going g key l acts es bytes 0
  going_none es bytes e b = record {
    stands = subst (Standing g) (sym e) (standing_none g);
    log = e;
    stood = λ k h. absurd (omega arith);
    lines = [];
    long = refl;
    each = λ k h. absurd (omega arith);
    text = b;
  }

  pub goes_on : (es es' : List Entry) (bytes bytes' : List ℕ) (i : ℕ) → Going g key l acts es bytes i → i < length acts
      → Stepped g key l (i + 1) (change_of (get_or acts i Query)) es es' bytes bytes' → Going g key l acts es' bytes' (i + 1)
  goes_on es es' bytes bytes' i so_far inside s =
      let change = change_of (get_or acts i Query) in
      let lines = so_far.lines ++ s.bytes ∷ [] in
      record {
        stands = s.stands;
        log = s.left ∙ ap (λ xs. after_change g key xs change) so_far.log ∙ sym (standing_next g key acts i inside);
        stood = λ k h. ⊎_elim (λ (e : k ≡ i). subst (λ j. Standing g (standing_at g key acts j)) (sym e) (subst (Standing g) so_far.log so_far.stands)) (λ (ne : k ≢ i). so_far.stood k (omega arith)) (cases_eq k i);
        lines = lines;
        long = length_push so_far.lines s.bytes ∙ ap (λ n. n + 1) so_far.long;
        each = λ k h. ⊎_elim (λ (e : k ≡ i). subst (λ j. Prints g key l (j + 1) (standing_at g key acts j) (change_of (get_or acts j Query)) (get_or lines j [])) (sym e) (subst (λ x. Prints g key l (i + 1) (standing_at g key acts i) change x) (sym (get_or_push so_far.lines s.bytes [] i so_far.long)) (subst (λ xs. Prints g key l (i + 1) xs change s.bytes) so_far.log s.prints))) (λ (ne : k ≢ i). let below : k < i = omega arith in let there : k < length so_far.lines = omega (arith, so_far.long) in subst (λ x. Prints g key l (k + 1) (standing_at g key acts k) (change_of (get_or acts k Query)) x) (sym (get_or_append_left so_far.lines (s.bytes ∷ []) [] k there)) (so_far.each k below)) (cases_eq k i);
        text = s.text ∙ ap (λ z. z ++ s.bytes) so_far.text ∙ flat_map_more (λ x. x) [] so_far.lines s.bytes;
      }

  pub gone : (es : List Entry) (bytes : List ℕ) → Going g key l acts es bytes (length acts) → Transcript g key l acts bytes
  gone es bytes a = record { lines = a.lines; long = a.long; each = a.each; stands = a.stood; text = a.text }
