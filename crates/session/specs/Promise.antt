-- The promise: what holds of every list of calls made on a fresh entries layer over a network of any make.
use Rattle.std.specs.Prelude.{◌≡◌, ℕ, ◌<◌, true, List, length, is_ok, Some, None, Err, vec_items, Result, ◌≢◌, slice_index, slice_index_or}
use Rattle.network.specs.Net.{Net, Same, size}
use Rattle.network.specs.Flow.{at}
use Rattle.layers.specs.Present.{present_net}
use Rattle.layers.specs.declared.entry.Entry.{Entry}
use Rattle.sift.specs.Workspace.{Workspace}
use Rattle.sift.specs.Sifted.{Sifted}
use Rattle.sift.specs.declared.refusal.SiftRefusal.{SiftRefusal}
use Rattle.sift.specs.declared.refusal.SiftRefusal.TheVariants.{Short}
use Rattle.session.specs.Log.{standing, lay_answer, undo_answer}
use Rattle.session.specs.declared.turn.Answer.TheVariants.{Laid, Undone, Sifted as Told}
use Rattle.session.specs.declared.turn.Buffers.{Buffers}
use Rattle.session.specs.declared.turn.Call.{Call}
use Rattle.session.specs.declared.turn.Call.TheVariants.{Lay, Undo, Sift}
use Rattle.session.specs.declared.turn.Turn.{Turn}

-- what the buffers of a call hold
abbrev pub held : Buffers → Workspace
held b = record {
  flow = vec_items b.flow;
  verdicts = vec_items b.verdicts;
  bottleneck = vec_items b.bottleneck;
  marks = vec_items b.marks;
  nodes = vec_items b.nodes;
  steps = vec_items b.steps;
}

-- A sift that was made: its buffers hold now what they hold, and its answer is told.
pub record Made (before : Buffers) (g : Net) (t : Turn) : Type 0 where
  pub buffers : Buffers
  pub answer : Result (Unit {0}) SiftRefusal
  pub turn : t ≡ record { call = Sift buffers; answer = Some (Told answer) }
  pub sifted : Sifted g (held before) (held buffers) answer

-- A call made while these entries stand: laying and undoing answer as the reference log does; a sift goes by the lawful flows
-- of the network with the present bounds.
abbrev pub Answered : Net → List Entry → Call → Turn → Type 0
Answered g es (Lay e) t = t ≡ record { call = Lay e; answer = Some (Laid (lay_answer g es e)) }
Answered g es Undo t = t ≡ record { call = Undo; answer = Some (Undone (undo_answer es)) }
Answered g es (Sift b) t = Made b (present_net g es) t

abbrev pub no_turn : Turn
no_turn = record { call = Undo; answer = None }

-- every call of a list is answered so
pub record Played (g : Net) (before after : List Turn) : Type 0 where
  pub long : length after ≡ length before
  pub each : (k : ℕ) → k < length before → Answered g (standing g before k) (slice_index_or before k no_turn).call (slice_index_or after k no_turn)

-- Two sifts agree: on whether there is a lawful flow, and if there is one on every verdict and on every fixed amount.
pub record Agree (g : Net) (v w : Workspace) (r q : Result (Unit {0}) SiftRefusal) : Type 0 where
  pub flow : is_ok r ≡ is_ok q
  pub verdicts : is_ok r ≡ true → (l : ℕ) → l < size g → slice_index v.verdicts l ≡ slice_index w.verdicts l
  pub fixed : is_ok r ≡ true → (l : ℕ) → l < size g → slice_index v.verdicts l ≡ 1 → at v.flow l ≡ at w.flow l

-- Two turns that are sifts, neither short of memory, agree.
abbrev pub TurnsAgree : Net → Turn → Turn → Type 0
TurnsAgree g s t =
    (b c : Buffers) (r q : Result (Unit {0}) SiftRefusal)
    → s ≡ record { call = Sift b; answer = Some (Told r) } → t ≡ record { call = Sift c; answer = Some (Told q) }
    → (r ≢ Err Short) → (q ≢ Err Short) → Agree g (held b) (held c) r q

-- While equal entries stand, on networks of the same meaning, any two sifts agree: as before an entry and after its undo.
abbrev pub SiftsAgree : Net → List Turn → List Turn → Net → List Turn → List Turn → Type 0
SiftsAgree g first first' h second second' =
    Same g h → (i j : ℕ) → i < length first → j < length second → standing g first i ≡ standing h second j
    → TurnsAgree g (slice_index_or first' i no_turn) (slice_index_or second' j no_turn)

-- The whole promise, for two lists of calls on fresh layers over two networks.
pub record Faithful (g h : Net) (first first' second second' : List Turn) : Type 0 where
  pub played : Played g first first'
  pub played_too : Played h second second'
  pub in_first : SiftsAgree g first first' g first first'
  pub in_second : SiftsAgree h second second' h second second'
  pub across : SiftsAgree g first first' h second second'
