-- The room of a step, as an amount and as a fact.
use Rattle.std.proofs.Common.{◌≡◌, ℕ, ◌+◌, ◌-◌, ◌<◌, ◌≤◌, Bool, true, false, cond, eqb, refl, arith}
use Rattle.std.proofs.lemmas.Bool.{true≢false, false≢true}
use Rattle.network.specs.Net.{Net, size, line, least, most}
use Rattle.flows.specs.Bounds.{Within}
use Rattle.flows.specs.Steps.{HasRoom}
use Rattle.index.specs.declared.step.Step.{Step}
use Rattle.reach.specs.Room.{step_of, room_of}

more : (b : Bool) (low x high d : ℕ) → d ≤ cond b (high - x) (x - low) → x ≤ high → b ≡ true → x + d ≤ high
more true low x high d h l e = omega arith
more false low x high d h l e = absurd (false≢true e)

less : (b : Bool) (low x high d : ℕ) → d ≤ cond b (high - x) (x - low) → low ≤ x → b ≡ false → low + d ≤ x
less true low x high d h l e = absurd (true≢false e)
less false low x high d h l e = omega arith

-- what is at most the room has room
pub has_room : (g : Net) (f : ℕ → ℕ) → Within g f → (d : ℕ) (s : Step) → s.line < size g → d ≤ room_of g f s → HasRoom g f d (step_of s)
has_room g f w d s l h =
    let low = least (line g s.line) in
    let high = most (line g s.line) in
    record {
      more = more (eqb s.direction 0) low (f s.line) high d h (w.high s.line l);
      less = less (eqb s.direction 0) low (f s.line) high d h (w.low s.line l);
    }

-- and what has room is at most the room
pub room_from : (g : Net) (f : ℕ → ℕ) (d : ℕ) (s : Step) → HasRoom g f d (step_of s) → d ≤ room_of g f s
room_from g f d s h = pick (eqb s.direction 0) (least (line g s.line)) (f s.line) (most (line g s.line)) h.more h.less
  where
    pick : (b : Bool) (low x high : ℕ) → (b ≡ true → x + d ≤ high) → (b ≡ false → low + d ≤ x) → d ≤ cond b (high - x) (x - low)
    pick true low x high p q = omega (arith, p refl)
    pick false low x high p q = omega (arith, q refl)
