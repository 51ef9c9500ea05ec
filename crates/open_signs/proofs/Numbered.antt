-- A pair that carries something in a lawful flow is a sign of the part in the flow's numbering, and the reverse.
use Rattle.std.proofs.Common.{◌≡◌, ℕ, ◌<◌, Bool, true, false, eqb, List, Some, sym, refl, ap, ◌∙◌, subst, arith}
use Rattle.std.proofs.lemmas.Bool.{lt-ltb, and_from, cond-true}
use Rattle.std.proofs.lemmas.Bool.Decides.{Decides-eqb}
use Rattle.contents.specs.Labels.{Labelled}
use Rattle.network.specs.Flow.{Fixed, Free, at}
use Rattle.layers.specs.Present.{present_net, Standing}
use Rattle.layers.specs.declared.entry.Entry.{Entry}
use Rattle.series.specs.Job.{Job, part_count, sign_count, whole_net}
use Rattle.series.specs.Key.{key_of, pair_place}
use Rattle.series.specs.Limits.{Held}
use Rattle.series.specs.Numbering.{byte_at}
use Rattle.solutions.specs.Carried.{flow_of, numbering_of}
use Rattle.solutions.specs.Offered.{SomeHas}
use Rattle.solutions.specs.Theorems.{FlowsToldUnder}
use Rattle.solutions.proofs.Obeyed.{flows_told_under}
use Rattle.solutions.proofs.Tests.{one}
use Rattle.solutions.proofs.ToFlow.{carries_pair}
use Rattle.listing.specs.Shows.{Lists, FixedOn, FreeOn}
use Rattle.open_signs.specs.Theorem.{ShownSignsAreThoseOfLawfulNumberings}

some_one : (b : Bool) → (one b ≡ 0 → ⊥) → b ≡ true
some_one true h = refl
some_one false h = absurd (h refl)

module _ (job : Job) (lo hi : ℕ) (es : List Entry) (l : Labelled) (bytes : List ℕ) (held : Held job) (stands : Standing (whole_net job lo hi) es) (listing : Lists (present_net (whole_net job lo hi) es) (key_of job) l bytes) (p s : ℕ) (inside : p < part_count job) (there : s < sign_count job) where
  told : FlowsToldUnder job lo hi es
  told = flows_told_under job lo hi es held stands

  place : (key_of job).pair_line p s ≡ Some (pair_place job p s)
  place = cond-true _ _ _ (and_from _ _ (lt-ltb _ _ inside) (lt-ltb _ _ there))

  from_shown : listing.table.may p s ≡ true → SomeHas job lo hi es p s
  from_shown e =
      let free : Free (present_net (whole_net job lo hi) es) (pair_place job p s) 0 = subst (λ o. FreeOn (present_net (whole_net job lo hi) es) o 0) place (listing.shows.some p s inside there e) in
      let f = free.0 in
      let n = numbering_of (key_of job) f in
      let carries : one (eqb (byte_at n p) s) ≡ at f (pair_place job p s) = sym (carries_pair job n p s inside there) ∙ ap (λ g. at g (pair_place job p s)) (told.forth f free.1.0) in
      (n, (told.numbering f free.1.0, (Decides-eqb (byte_at n p) s).0 (some_one _ (λ z. free.1.1 (sym carries ∙ z)))))

  to_shown : SomeHas job lo hi es p s → listing.table.may p s ≡ true
  to_shown m =
      let n = m.0 in
      let f = flow_of job n in
      let test : eqb (byte_at n p) s ≡ true = (Decides-eqb (byte_at n p) s).1 m.1.1 in
      let carries : at f (pair_place job p s) ≡ 1 = carries_pair job n p s inside there ∙ ap one test in
      let unfixed : Fixed (present_net (whole_net job lo hi) es) (pair_place job p s) 0 → ⊥ = λ h. omega (arith, carries, h f (told.flow n m.1.0)) in
      (listing.shows.may p s inside there).1 (λ h. unfixed (subst (λ o. FixedOn (present_net (whole_net job lo hi) es) o 0) place h))

pub shown_signs : ShownSignsAreThoseOfLawfulNumberings
shown_signs job lo hi es l bytes held stands listing p s inside there =
    (from_shown job lo hi es l bytes held stands listing p s inside there, to_shown job lo hi es l bytes held stands listing p s inside there)
