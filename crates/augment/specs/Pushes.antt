-- Pushes along walks.
use Rattle.std.specs.Prelude.{◌≡◌, ℕ, ◌<◌, ◌≤◌, List, length}
use Rattle.network.specs.Net.{Net, Limits, size}
use Rattle.network.specs.Flow.{at}
use Rattle.network.specs.Sum.{upto}
use Rattle.flows.specs.Steps as flows
use Rattle.flows.specs.Trails.{Trail}
use Rattle.index.specs.Rows.{step_at}
use Rattle.index.specs.declared.step.Step.{Step}
use Rattle.reach.specs.Room.{room_of}

-- An amount of at most `limit` that each of the first steps has room for; it is not 0 unless the limit or some room is.
pub record Narrowest (g : Net) (f : ℕ → ℕ) (cells : List Step) (count limit amount : ℕ) : Type 0 where
  pub most : amount ≤ limit
  pub rooms : (k : ℕ) → k < count → amount ≤ room_of g f (step_at cells k)
  pub some : 0 < limit → ((k : ℕ) → k < count → 0 < room_of g f (step_at cells k)) → 0 < amount

-- The steps are a trail of some network with room for the amount.
pub record Passable (amount : ℕ) (flow : List ℕ) (steps : List flows.Step) : Type 0 where
  pub net : Net
  pub limits : Limits net
  pub long : length flow ≡ size net
  pub from : ℕ
  pub to : ℕ
  pub trail : Trail net amount (at flow) from to steps

-- what is to spare in all
abbrev pub total : ℕ → List ℕ → ℕ
total n spare = upto n (at spare)

-- A push from node a: less is to spare, at a and in all.
pub record Pushed (n a : ℕ) (spare spare' : List ℕ) : Type 0 where
  pub falls : total n spare' < total n spare
  pub less : at spare' a < at spare a
