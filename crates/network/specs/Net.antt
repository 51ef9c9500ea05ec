-- What a network means: a number of nodes and a list of lines (the field's word: arcs), and the limits that every network keeps.
use Rattle.std.specs.Prelude.{◌≡◌, ℕ, ◌<◌, ◌≤◌, List, length, slice_index_or}

-- A line: tail, head, least and most. Nothing outside this file takes one apart: it is read by the four accessors below.
abbrev pub Line : Type 0
Line = ℕ × ℕ × ℕ × ℕ

-- the node that the line leaves
abbrev pub tail : Line → ℕ
tail l = l.0

-- the node that it enters
abbrev pub head : Line → ℕ
head l = l.1

-- the least and the most that a lawful flow may carry over it
abbrev pub least : Line → ℕ
least l = l.2

abbrev pub most : Line → ℕ
most l = l.3

-- the line that stands for a place where there is none
abbrev pub no_line : Line
no_line = (0, 0, 0, 0)

-- the four numbers that are told of a line
abbrev pub told : Line → ℕ × ℕ × ℕ × ℕ
told l = (tail l, head l, least l, most l)

pub record Net : Type 0 where
  pub nodes : ℕ
  pub lines : List Line

-- how many lines a network has, and its line at a place
abbrev pub size : Net → ℕ
size n = length n.lines

abbrev pub line : Net → ℕ → Line
line n k = slice_index_or n.lines k no_line

-- A line that fits a network of so many nodes: both ends are nodes, and the bounds are in order and of 16 bits.
pub record Fit (nodes : ℕ) (l : Line) : Type 0 where
  pub tail : tail l < nodes
  pub head : head l < nodes
  pub ordered : least l ≤ most l
  pub small : most l ≤ 65535

-- The limits of every network.
pub record Limits (n : Net) : Type 0 where
  pub nodes : n.nodes ≤ 1024
  pub count : size n ≤ 16384
  pub each : (k : ℕ) → k < size n → Fit n.nodes (line n k)

-- Networks of the same meaning: as many nodes, as many lines, and the same four things told of the line at each place.
pub record Same (m n : Net) : Type 0 where
  pub nodes : m.nodes ≡ n.nodes
  pub count : size m ≡ size n
  pub tails : (k : ℕ) → k < size m → tail (line m k) ≡ tail (line n k)
  pub heads : (k : ℕ) → k < size m → head (line m k) ≡ head (line n k)
  pub leasts : (k : ℕ) → k < size m → least (line m k) ≡ least (line n k)
  pub mosts : (k : ℕ) → k < size m → most (line m k) ≡ most (line n k)
