-- What a search over steps with room has found, and what it keeps as it goes on.
use Rattle.std.specs.Prelude.{◌≡◌, ℕ, ◌+◌, ◌<◌, ◌≤◌, Bool, true, false, cond, not, ◌&&◌, ◌||◌, List, length, ◌==◌, nat_lt, slice_index}
use Rattle.network.specs.Net.{Net, line, least, most}
use Rattle.network.specs.Flow.{at}
use Rattle.flows.specs.Bounds.{Closed}
use Rattle.flows.specs.Trails.{Spread}
use Rattle.buffers.specs.Marks.{marked, blanks}
use Rattle.buffers.specs.declared.marks.Marks.{Marks}
use Rattle.buffers.specs.declared.places.Places.{Places}
use Rattle.index.specs.Rows.{Leaves}
use Rattle.index.specs.Steps.{target}
use Rattle.index.specs.declared.step.Step.{Step}

-- one more can go over the step: along its line where that carries less than its most, against it where more than its least
abbrev pub has_room : Net → List ℕ → Step → Bool
has_room g f s = cond (s.direction == 0) (nat_lt (at f s.line) (most (line g s.line))) (nat_lt (least (line g s.line)) (at f s.line))

-- a step that a search may take: not over the line to avoid, and with room for one more
abbrev pub passable : Net → List ℕ → ℕ → Step → Bool
passable g f avoid s = not (s.line == avoid) && has_room g f s

-- What a search has found: the mark bytes of so many nodes, and a list of nodes over lent places.
pub record Found : Type 0 where
  pub nodes : ℕ
  pub bytes : List ℕ
  pub cells : List ℕ
  pub len : ℕ

abbrev pub found : Marks → Places ℕ → Found
found marks list = record { nodes = marks.count; bytes = marks.bytes.now; cells = list.cells.now; len = list.len }

-- the set of the nodes that are marked, and the node at a place of the list
abbrev pub reached : Found → ℕ → Bool
reached s = marked s.bytes s.nodes

abbrev pub node_at : Found → ℕ → ℕ
node_at s k = slice_index s.cells k

-- a node that stands in the list
pub record Waits (s : Found) (v : ℕ) : Type 0 where
  pub place : ℕ
  pub below : place < s.len
  pub here : node_at s place ≡ v

-- The nodes that are marked are those that stand in the list, each once.
pub record Listed (s : Found) : Type 0 where
  pub marks : length s.bytes ≡ s.nodes
  pub places : length s.cells ≡ s.nodes
  pub once : s.len + blanks s.bytes s.nodes ≡ s.nodes
  pub marked : (k : ℕ) → k < s.len → reached s (node_at s k) ≡ true
  pub listed : (v : ℕ) → reached s v ≡ true → Waits s v

-- Node v is found, now or before; the list keeps what stood in it.
pub record Adds (v : ℕ) (s t : Found) : Type 0 where
  pub nodes : t.nodes ≡ s.nodes
  pub listed : Listed t
  pub found : (w : ℕ) → reached t w ≡ (w == v || reached s w)
  pub longer : s.len ≤ t.len
  pub kept : (k : ℕ) → k < s.len → node_at t k ≡ node_at s k

-- From s to t the search has gone on: no node is lost, the list keeps what stood in it, and from wherever all nodes found
-- were reached without the line to avoid, all are so reached.
pub record Grows (g : Net) (f : List ℕ) (avoid : ℕ) (s t : Found) : Type 0 where
  pub nodes : t.nodes ≡ s.nodes
  pub listed : Listed t
  pub wider : (v : ℕ) → reached s v ≡ true → reached t v ≡ true
  pub longer : s.len ≤ t.len
  pub kept : (k : ℕ) → k < s.len → node_at t k ≡ node_at s k
  pub spread : (a : ℕ) → Spread g 1 (at f) avoid a (reached s) → Spread g 1 (at f) avoid a (reached t)

-- every step from node v that the search may take ends in a node that is found
abbrev pub Finished : Net → List ℕ → ℕ → Found → ℕ → Type 0
Finished g f avoid s v = (step : Step) → Leaves g v step → passable g f avoid step ≡ true → reached s (target g step) ≡ true

-- A visit of node v says whether it has found the node that is sought; if not, it has finished v.
abbrev pub Visits : Net → List ℕ → ℕ → Found → ℕ → ℕ → Bool → Type 0
Visits g f avoid s v sought true = reached s sought ≡ true
Visits g f avoid s v sought false = (reached s sought ≡ false) × Finished g f avoid s v

-- A search that has ended says whether it has found the node that is sought; if not, no step but over the line to avoid
-- leads out of what it has found.
abbrev pub Ends : Net → List ℕ → ℕ → Found → ℕ → Bool → Type 0
Ends g f avoid s sought true = reached s sought ≡ true
Ends g f avoid s sought false = (reached s sought ≡ false) × Closed g (at f) (reached s) avoid

-- The answer yes: a set with the node sought that is reached from the start without the line to avoid.
pub record Joins (g : Net) (f : List ℕ) (avoid start sought : ℕ) : Type 0 where
  pub set : ℕ → Bool
  pub spread : Spread g 1 (at f) avoid start set
  pub holds : set sought ≡ true

-- The answer no: a set with the start and without the node sought that is closed but for the line to avoid.
pub record Parts (g : Net) (f : List ℕ) (avoid start sought : ℕ) : Type 0 where
  pub set : ℕ → Bool
  pub holds : set start ≡ true
  pub lacks : set sought ≡ false
  pub closed : Closed g (at f) set avoid

abbrev pub Answer : Net → List ℕ → ℕ → ℕ → ℕ → Bool → Type 0
Answer g f avoid start sought true = Joins g f avoid start sought
Answer g f avoid start sought false = Parts g f avoid start sought
