-- The labels of a job: the name of each part and the text of each sign, as bytes.
use Rattle.std.specs.Prelude.{ℕ, ◌<◌, ◌≤◌, List, [], length, slice_index_or}

pub record Labelled : Type 0 where
  pub names : List (List ℕ)
  pub texts : List (List ℕ)

-- The limits of labels: at most 64 parts and signs, names of at most 20 bytes and texts of at most 8.
pub record Small (l : Labelled) : Type 0 where
  pub parts : length l.names ≤ 64
  pub signs : length l.texts ≤ 64
  pub names : (p : ℕ) → p < length l.names → length (slice_index_or l.names p []) ≤ 20
  pub texts : (s : ℕ) → s < length l.texts → length (slice_index_or l.texts s []) ≤ 8
