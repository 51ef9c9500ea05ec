-- What the numbering call says where the legend is that of a whole job under entries.
use Rattle.std.proofs.Common.{◌≡◌, ℕ, ◌+◌, ◌<◌, ◌≤◌, ◌⊎◌, List, ◌++◌, length, take, drop, Ok, Err, Result, sym, refl, ap, ◌∙◌, subst, inl, inr, arith, length-append, get_or-take}
use Rattle.std.proofs.lemmas.List.FromFn.{length-map-range_with_len}
use Rattle.std.proofs.lemmas.List.{take-append-le, take_all}
use Rattle.std.proofs.lemmas.Bool.{cases_lt}
use Rattle.network.specs.Flow.{at, Lawful, Fixed, Free}
use Rattle.network.specs.Key.{Key}
use Rattle.network.specs.Net.{Net, size}
use Rattle.flows.proofs.Same.{lawful_same, fixed_same, free_same, same_sym}
use Rattle.layers.specs.Present.{present, present_net}
use Rattle.layers.specs.declared.entry.Entry.{Entry}
use Rattle.layers.specs.Under.{size_bounded}
use Rattle.series.specs.Job.{Job, part_count, sign_count, line_count, whole_net}
use Rattle.series.specs.Key.{key_of, pair_place}
use Rattle.sift.specs.Sifted.{Accepted}
use Rattle.sift.specs.Workspace.{Workspace}
use Rattle.sift.specs.declared.refusal.SiftRefusal.{SiftRefusal}
use Rattle.sift.specs.declared.refusal.SiftRefusal.TheVariants.{Short, NoFlow}
use Rattle.solutions.specs.Carried.{flow_of, byte_of, numbering_of}
use Rattle.solutions.specs.Obeyed.{LawfulUnder}
use Rattle.solutions.specs.Offered.{SomeHas}
use Rattle.solutions.proofs.Lines.{size_whole}
use Rattle.solutions.proofs.Obeyed.{flow_under, numbering_under, forth_under}
use Rattle.solutions.proofs.Offered.{offers}
use Rattle.solutions.proofs.Regions.{pair_inside}
use Rattle.solutions.proofs.Tests.{one_le}
use Rattle.solutions.proofs.ToFlow.{carries_part}
use Rattle.solutions.specs.Solution.{set_of}
use Rattle.numbering.specs.Numbered.{Numbers}
use Rattle.numbering.specs.JobNumbered.{OfJob, CalledFixed, CalledFree, VerdictsTell, JobNumbered, NumbersJobs}
use Rattle.numbering.proofs.Passes.{judge_passes}
use Rattle.numbering.proofs.Within.{numbering_take}

module _ (g : Net) (key : Key) (job : Job) (lo hi : ℕ) (es : List Entry) (of : OfJob g key job lo hi es) where
  -- the network of the whole job under the entries
  abbrev whole : Net
  whole = present_net (whole_net job lo hi) es

  size_of : size g ≡ line_count job + 1
  size_of =
      of.same.count ∙ size_bounded (whole_net job lo hi) (present (whole_net job lo hi) es) ∙ size_whole job lo hi

  module _ (w : Workspace) (accepted : Accepted g w) where
    -- the flow shown
    abbrev shown : List ℕ
    shown = take (line_count job + 1) w.flow

    shown_lawful : Lawful whole shown
    shown_lawful = lawful_same of.same shown (subst (λ n. Lawful g (take n w.flow)) size_of accepted.lawful)

    shown_at : (k : ℕ) → k < line_count job + 1 → at shown k ≡ at w.flow k
    shown_at k h = rw get_or-take

    -- the verdict on a line, over the whole network and the flow shown
    called_fixed : (k x : ℕ) → k < line_count job + 1 → CalledFixed w k x → Fixed whole k x
    called_fixed k x h called =
        elim (accepted.verdicts k (omega (arith, size_of))) [
          | inl fixed ↦ fixed_same of.same k x (subst (Fixed g k) called.1 fixed.1)
          | inr free ↦ absurd (omega (arith, called.0, free.0))
        ]

    called_free : (k : ℕ) → k < line_count job + 1 → CalledFree w k → Free whole k (at shown k)
    called_free k h called =
        elim (accepted.verdicts k (omega (arith, size_of))) [
          | inl fixed ↦ absurd (omega (arith, called, fixed.0))
          | inr free ↦ free_same of.same k (at shown k) (subst (Free g k) (sym (shown_at k h)) free.1)
        ]

    -- a line is called fixed at its amount, or free
    called : (k : ℕ) → k < line_count job + 1 → CalledFixed w k (at w.flow k) ⊎ CalledFree w k
    called k h =
        elim (accepted.verdicts k (omega (arith, size_of))) [ inl fixed ↦ inl (fixed.0, refl) | inr free ↦ inr free.0 ]

    pair_place_inside : (p s : ℕ) → p < part_count job → s < sign_count job → pair_place job p s < line_count job + 1
    pair_place_inside p s h k = omega (arith, pair_inside job p s h k)

    offered : (p s : ℕ) → p < part_count job → s < sign_count job → (CalledFixed w (pair_place job p s) 0 → ⊥) → SomeHas job lo hi es p s
    offered p s h k not-shut =
        let o = offers job lo hi es of.held of.standing in
        let place = pair_place_inside p s h k in
        elim (called (pair_place job p s) place) [
          | inr free ↦ o.loose p s h k shown shown_lawful (called_free (pair_place job p s) place free)
          | inl fixed ↦
              elim (cases_lt 0 (at w.flow (pair_place job p s))) [
                | inl above ↦ o.carried p s h k shown shown_lawful (omega (arith, shown_at (pair_place job p s) place))
                | inr none ↦ absurd (not-shut (fixed.0, omega arith))
              ]
        ]

    -- a part's line carries at most 1
    part_small : (p : ℕ) → p < part_count job → at w.flow p ≤ 1
    part_small p h =
        let bytes = numbering_of (key_of job) shown in
        let back = forth_under job lo hi es of.held of.standing shown shown_lawful in
        let there : p < line_count job + 1 = omega arith in
        omega (arith, shown_at p there, ap (λ f. at f p) back, carries_part job bytes p h, one_le (set_of bytes p))

    cases : (p : ℕ) → p < part_count job → CalledFixed w p 1 ⊎ (CalledFixed w p 0 ⊎ CalledFree w p)
    cases p h =
        let there : p < line_count job + 1 = omega arith in
        elim (called p there) [
          | inr free ↦ inr (inr free)
          | inl fixed ↦
              elim (cases_lt 0 (at w.flow p)) [
                | inl above ↦ inl (fixed.0, omega (arith, part_small p h))
                | inr none ↦ inr (inl (fixed.0, omega arith))
              ]
        ]

    verdicts_tell : VerdictsTell job lo hi es w
    verdicts_tell =
        let o = offers job lo hi es of.held of.standing in
        record {
          offered = offered;
          shut = λ p s h k fixed. o.shut p s h k (called_fixed (pair_place job p s) 0 (pair_place_inside p s h k) fixed);
          cases = cases;
          always = λ p h fixed. o.always p h (called_fixed p 1 (omega arith) fixed);
          never = λ p h fixed. o.never p h (called_fixed p 0 (omega arith) fixed);
          sometimes = λ p h free. o.sometimes p h shown shown_lawful (called_free p (omega arith) free);
        }

    -- the bytes written are the numbering of the flow shown
    module _ (bytes bytes' : List ℕ) (written : bytes' ≡ numbering_of key w.flow ++ drop key.parts bytes) where
      numbering_is : numbering_of key w.flow ≡ numbering_of (key_of job) shown
      numbering_is = ap (λ k. numbering_of k w.flow) of.told ∙ sym (numbering_take job w.flow)

      length_numbering : length (numbering_of (key_of job) shown) ≡ part_count job
      length_numbering = length-map-range_with_len (byte_of (key_of job) shown) 0 (part_count job)

      front_is : take (part_count job) bytes' ≡ numbering_of (key_of job) shown
      front_is =
          let front = numbering_of (key_of job) shown in
          ap (take (part_count job)) (written ∙ ap (λ xs. xs ++ drop key.parts bytes) numbering_is)
          ∙ take-append-le (part_count job) front (drop key.parts bytes) (omega (arith, length_numbering))
          ∙ take_all (part_count job) front (omega (arith, length_numbering))

      long : part_count job ≤ length bytes'
      long =
          let front = numbering_of (key_of job) shown in
          omega (
            arith,
            ap length (written ∙ ap (λ xs. xs ++ drop key.parts bytes) numbering_is),
            length-append front (drop key.parts bytes),
            length_numbering,
          )

      lawful : LawfulUnder job lo hi es (take (part_count job) bytes')
      lawful =
          subst (LawfulUnder job lo hi es) (sym front_is) (numbering_under job lo hi es of.held of.standing shown shown_lawful)

      pub job_numbered : JobNumbered job lo hi es w bytes'
      job_numbered = record {
        lawful = lawful;
        passes = judge_passes job lo hi bytes' long lawful.lawful;
        flow = ap (flow_of job) front_is ∙ forth_under job lo hi es of.held of.standing shown shown_lawful;
        verdicts = verdicts_tell;
      }

  -- no lawful flow, no lawful numbering
  pub none_lawful : ((f : List ℕ) → Lawful g f → ⊥) → (other : List ℕ) → LawfulUnder job lo hi es other → ⊥
  none_lawful none other law =
      none (flow_of job other) (lawful_same (same_sym of.same) (flow_of job other) (flow_under job lo hi es of.held of.standing other law))

pub numbers_jobs : (g : Net) (key : Key) (before after : Workspace) (bytes bytes' : List ℕ) (r : Result (Unit {0}) SiftRefusal) → Numbers g key before after bytes bytes' r → NumbersJobs g key after bytes' r
numbers_jobs g key before after bytes bytes' (Ok tt) h job lo hi es of =
    job_numbered g key job lo hi es of after h.sifted.answer bytes bytes' h.written
numbers_jobs g key before after bytes bytes' (Err Short) h job lo hi es of = tt
numbers_jobs g key before after bytes bytes' (Err (NoFlow d s)) h job lo hi es of =
    none_lawful g key job lo hi es of h.sifted.answer.none
