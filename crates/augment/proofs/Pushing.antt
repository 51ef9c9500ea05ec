-- Pushing along a walk, step by step and whole.
use Rattle.std.proofs.Common.{◌≡◌, ℕ, ◌+◌, ◌-◌, ◌<◌, ◌≤◌, true, false, List, length, set, sym, ap, ◌∙◌, subst, arith, below_more}
use Rattle.std.proofs.lemmas.List.{get_or-set_same}
use Rattle.network.specs.Net.{Net, size}
use Rattle.network.specs.Flow.{at}
use Rattle.flows.specs.Bounds.{Mending}
use Rattle.flows.specs.Steps as flows
use Rattle.flows.specs.Trails.{Trail}
use Rattle.flows.proofs.Trails.{walked_all, walked_each, trail_room}
use Rattle.flows.proofs.Push.{push_lists, push_turn, push_next, taken_at, upto_taken}
use Rattle.index.specs.Rows.{step_at}
use Rattle.index.specs.Steps.{along}
use Rattle.index.specs.declared.step.Step.{Step}
use Rattle.reach.specs.Room.{step_of, room_of}
use Rattle.reach.proofs.Read.{Read}
use Rattle.reach.proofs.Renamed.{renamed}
use Rattle.augment.specs.Walks.{trodden}
use Rattle.augment.specs.Pushes.{Narrowest, Passable, Pushed}
use Rattle.augment.proofs.Room.{has_room, room_from}

-- a bound on the line of a step, at the step as it was read
pub line_below : (s t : Step) (n : ℕ) → s ≡ t → t.line < n → s.line < n
line_below s t n e l = subst (λ (x : Step). x.line < n) (sym e) l

-- one step of a push, at the step as it was read
module _ {amount : ℕ} {flow : List ℕ} {cells : List Step} {count : ℕ} (pass : Passable amount flow (trodden cells count)) {k : ℕ} {h : List ℕ}
    (e : h ≡ flows.pushed (trodden cells k) amount flow) {step : Step} (read : Read cells count k (along 0) step) where
  ready : flows.Ready pass.net amount h (step_of step)
  ready =
      subst (λ s. flows.Ready pass.net amount h (step_of s)) (sym read.here)
      (push_turn pass.net amount flow pass.from pass.to count (λ j. step_of (step_at cells j)) pass.long pass.trail k read.inside h e)

  pub carry_inside : step.line < length h
  carry_inside = ready.inside

  pub carry_more : flows.along (step_of step) ≡ true → at h step.line + amount < 4294967296
  carry_more t = omega (arith, ready.room.more t, (pass.limits.each step.line ready.listed).small)

  pub carry_less : flows.along (step_of step) ≡ false → amount ≤ at h step.line
  carry_less t = omega (arith, ready.room.less t)

  pub carry_next : {h' : List ℕ} → h' ≡ flows.put (step_of step) amount h → h' ≡ flows.pushed (trodden cells (k + 1)) amount flow
  carry_next p = p ∙ ap (λ s. flows.put (step_of s) amount h) read.here ∙ push_next amount flow (λ j. step_of (step_at cells j)) k h e

-- the narrowest step, one step more at a time
pub narrowest_none : (g : Net) (f : ℕ → ℕ) (cells : List Step) (limit : ℕ) → Narrowest g f cells 0 limit limit
narrowest_none g f cells limit = record { most = omega arith; rooms = λ k l. absurd (omega arith); some = λ h _. h }

module _ {g : Net} {f : ℕ → ℕ} {cells : List Step} {k limit amount : ℕ} (now : Narrowest g f cells k limit amount) where
  pub narrowest_keeps : amount ≤ room_of g f (step_at cells k) → Narrowest g f cells (k + 1) limit amount
  narrowest_keeps h =
      record {
        most = now.most;
        rooms = below_more (λ j. amount ≤ room_of g f (step_at cells j)) k now.rooms h;
        some = λ p q. now.some p (λ j l. q j (omega arith));
      }

  pub narrowest_takes : (x : ℕ) → x ≡ room_of g f (step_at cells k) → x < amount → Narrowest g f cells (k + 1) limit x
  narrowest_takes x e h =
      record {
        most = omega (arith, now.most);
        rooms = below_more (λ j. x ≤ room_of g f (step_at cells j)) k (λ j l. omega (arith, now.rooms j l)) (omega arith);
        some = λ p q. omega (arith, q k (omega arith));
      }

  pub narrowest_all : {count : ℕ} → k ≡ count → Narrowest g f cells count limit amount
  narrowest_all e = subst (λ n. Narrowest g f cells n limit amount) e now

-- the steps of a trail go over lines of the network, and have room
module _ (g : Net) (f : ℕ → ℕ) (a b : ℕ) (cells : List Step) (count : ℕ) (t : Trail g 1 f a b (trodden cells count)) where
  pub trail_inside : (k : ℕ) → k < count → (step_at cells k).line < size g
  trail_inside k l = walked_each (λ s. flows.place s < size g) count (λ j. step_of (step_at cells j)) t.inside k l

  pub trail_some : (k : ℕ) → k < count → 0 < room_of g f (step_at cells k)
  trail_some k l =
      omega (arith, room_from g f 1 (step_at cells k) (walked_each (flows.HasRoom g f 1) count (λ j. step_of (step_at cells j)) t.room k l))

-- a whole push
module _ (g : Net) (flow : List ℕ) (a b : ℕ) (cells : List Step) (count amount : ℕ) (spare lack : List ℕ) (mending : Mending g flow (at spare) (at lack))
    (t : Trail g 1 (at flow) a b (trodden cells count)) (rooms : (k : ℕ) → k < count → amount ≤ room_of g (at flow) (step_at cells k)) where
  pub push_trail : Trail g amount (at flow) a b (trodden cells count)
  push_trail =
      trail_room t
      (walked_all (flows.HasRoom g (at flow) amount) count (λ j. step_of (step_at cells j))
      (λ k l. has_room g (at flow) mending.bounds amount (step_at cells k) (trail_inside g (at flow) a b cells count t k l) (rooms k l)))

  pub push_mends : a < length spare → b < length lack → amount ≤ at spare a → amount ≤ at lack b
      → {flow' spare' lack' : List ℕ} → flow' ≡ flows.pushed (trodden cells count) amount flow
      → spare' ≡ set spare a (at spare a - amount) → lack' ≡ set lack b (at lack b - amount)
      → Mending g flow' (at spare') (at lack')
  push_mends i j p q {flow'} {spare'} {lack'} ef es el =
      renamed (λ x y z. Mending g x (at y) (at z)) ef es el
      (push_lists g amount flow a b (trodden cells count) spare lack mending push_trail i j p q)

-- less is to spare afterwards
pub push_falls : (n a amount : ℕ) (spare : List ℕ) → a < n → length spare ≡ n → amount ≤ at spare a → 0 < amount
    → {spare' : List ℕ} → spare' ≡ set spare a (at spare a - amount) → Pushed n a spare spare'
push_falls n a amount spare node long p some {spare'} e =
    subst (Pushed n a spare) (sym e)
    (record {
      falls =
          omega (
            arith,
            upto_taken n a amount (at spare) (at (set spare a (at spare a - amount))) node (λ v _. taken_at spare a amount (omega arith) p v),
          );
      less = omega (arith, get_or-set_same spare a (at spare a - amount) 0 (omega arith));
    })
