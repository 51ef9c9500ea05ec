-- The lines of the network that a list of records tells, by place.
use Rattle.std.proofs.Common.{◌≡◌, ℕ, zero, suc, ◌<◌, List, [], ◌∷◌, length, get_or, refl, ap, arith}
use Rattle.std.proofs.lemmas.List.{length-map}
use Rattle.network.specs.Net.{Limits, size, line, tail, head}
use Rattle.network.specs.Records.{line_of, net_of}
use Rattle.network.specs.declared.line_record.LineRecord.{LineRecord}

-- the record that stands for a place where there is none
abbrev pub no_record : LineRecord
no_record = record { tail = 0; head = 0; least = 0; most = 0 }

-- there are as many lines as records
pub size_is : (nodes : ℕ) (records : List LineRecord) → size (net_of nodes records) ≡ length records
size_is nodes records = length-map records line_of

-- the line at a place is the one that its record holds
pub line_is : (nodes : ℕ) (records : List LineRecord) (k : ℕ) → line (net_of nodes records) k ≡ line_of (get_or records k no_record)
line_is nodes [] k = refl
line_is nodes (r ∷ rs) zero = refl
line_is nodes (r ∷ rs) (suc k) = line_is nodes rs k

-- What is known of a line within the limits, in terms of the record that holds it.
pub record LineAt (nodes : ℕ) (records : List LineRecord) (k : ℕ) : Type 0 where
  pub inside : k < size (net_of nodes records)
  pub tail : tail (line (net_of nodes records) k) ≡ (get_or records k no_record).tail
  pub head : head (line (net_of nodes records) k) ≡ (get_or records k no_record).head
  pub tail_node : (get_or records k no_record).tail < nodes
  pub head_node : (get_or records k no_record).head < nodes

pub line_at : (nodes : ℕ) (records : List LineRecord) (k : ℕ) → Limits (net_of nodes records) → k < length records → LineAt nodes records k
line_at nodes records k limits within =
    let inside : k < size (net_of nodes records) = omega (arith, size_is nodes records) in
    let tail-is = ap tail (line_is nodes records k) in
    let head-is = ap head (line_is nodes records k) in
    record {
      inside = inside;
      tail = tail-is;
      head = head-is;
      tail_node = omega (arith, (limits.each k inside).tail);
      head_node = omega (arith, (limits.each k inside).head);
    }
