-- Entries that can stand: one more and one less, and what the layer means while they stand.
use Rattle.std.proofs.Common.{◌≡◌, ℕ, zero, suc, ◌<◌, ◌≤◌, List, [], ◌∷◌, ◌++◌, length, get_or, take, Ok, Err, Result, refl, ap, subst, add-one, arith, below_more}
use mathlib.Core.Path.{fun_ext}
use Rattle.std.proofs.lemmas.List.{take_more, take_all, take_at, take-append-le, get_or_append_left, get_or_push, length_push}
use Rattle.std.proofs.lemmas.List.Sums.{fold_push}
use Rattle.network.specs.Net.{Net, size, line}
use Rattle.layers.specs.Entries.{Inside, Accepted, bounds_of, with_bounds, bounds_under, net_under, Lays, Undoes}
use Rattle.layers.specs.Named.{no_entry}
use Rattle.layers.specs.Narrow.{narrow, narrowed}
use Rattle.layers.specs.Present.{present, present_net, Standing, LaysStanding}
use Rattle.layers.proofs.Present.{both_push}
use Rattle.layers.specs.declared.entries.LayRefusal.{LayRefusal}
use Rattle.layers.specs.declared.entries.UndoRefusal.{UndoRefusal}
use Rattle.layers.specs.declared.entries.UndoRefusal.TheVariants.{NoEntry}
use Rattle.layers.specs.declared.entry.Entry.{Entry}

module _ (g : Net) where
  pub standing_none : Standing g []
  standing_none i h = absurd (omega arith)

  pub standing_push : (es : List Entry) (e : Entry) → Standing g es → Accepted (size g) (present g es) (length es) e → Standing g (es ++ e ∷ [])
  standing_push es e s a i h =
      below_more (λ k. Accepted (size g) (present g (take k (es ++ e ∷ []))) k (get_or (es ++ e ∷ []) k no_entry)) (length es) (λ k l. let front : k ≤ length es = omega arith in rw (take-append-le k es (e ∷ []) front, get_or_append_left es (e ∷ []) no_entry k l) (s k l)) (rw (take_at es (e ∷ []) (length es) refl, get_or_push es e no_entry (length es) refl) a) i (rw length_push at h)

  pub standing_pop : (es : List Entry) (e : Entry) → Standing g (es ++ e ∷ []) → Standing g es
  standing_pop es e s i h =
      let front : i ≤ length es = omega arith in
      rw (take-append-le i es (e ∷ []) front, get_or_append_left es (e ∷ []) no_entry i h) at (s i (rw length_push (omega arith)))

  module _ (es : List Entry) (s : Standing g es) (place : ℕ) where
    within_here : (i : ℕ) → i < length es → (get_or es i no_entry).line ≡ place → Inside (present g (take i es) place) (get_or es i no_entry).amount
    within_here i h e = subst (λ k. Inside (present g (take i es) k) (get_or es i no_entry).amount) e (s i h).within

    front_told : (i : ℕ) → i ≤ length es → narrowed place (bounds_of (line g place)) (take i es) ≡ present g (take i es) place
    front_told zero h = refl
    front_told (suc i) h =
        let inside : i < length es = omega arith in
        let b = bounds_of (line g place) in
        let more : take (suc i) es ≡ take i es ++ get_or es i no_entry ∷ [] = rw add-one at (take_more es i no_entry inside) in
        rw (more, fold_push (narrow place) b (take i es) (get_or es i no_entry), front_told i (omega arith)) (both_push b (take i es) (get_or es i no_entry) place (within_here i inside))

    bounds_told : bounds_under g es place ≡ present g es place
    bounds_told = let all : length es ≤ length es = omega arith in rw take_all at (front_told (length es) all)

  -- what standing entries leave are the present bounds, so the layer means the network with those
  pub standing_bounds : (es : List Entry) → Standing g es → bounds_under g es ≡ present g es
  standing_bounds es s = fun_ext (bounds_told es s)

  pub standing_net : (es : List Entry) → Standing g es → net_under g es ≡ present_net g es
  standing_net es s = ap (with_bounds g) (standing_bounds es s)

  laid_stands : (e : Entry) (before after : List Entry) (r : Result (Unit {0}) LayRefusal) → Lays (size g) (present g before) e before after r → Standing g before → Standing g after
  laid_stands e before after (Ok u) h s = rw h.1 (standing_push before e s h.0)
  laid_stands e before after (Err x) h s = rw h.1 s

  -- Laying and undoing while entries stand.
  pub lays_standing : (e : Entry) (before after : List Entry) (r : Result (Unit {0}) LayRefusal) → Lays (size g) (bounds_under g before) e before after r → Standing g before → LaysStanding g e before after r
  lays_standing e before after r h s =
      let by-present = subst (λ bounds. Lays (size g) bounds e before after r) (standing_bounds before s) h in
      record { lays = by-present; stands = laid_stands e before after r by-present s }

  pub undoes_standing : (before after : List Entry) (r : Result Entry UndoRefusal) → Undoes before after r → Standing g before → Standing g after
  undoes_standing before after (Ok e) h s = standing_pop after e (rw h at s)
  undoes_standing before after (Err NoEntry) h s = rw h.1 s
