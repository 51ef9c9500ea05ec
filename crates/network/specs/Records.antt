-- Networks held in memory as a number of nodes and a list of line records.
use Rattle.std.specs.Prelude.{ℕ, List, map}
use Rattle.network.specs.Net.{Net, Line}
use Rattle.network.specs.declared.line_record.LineRecord.{LineRecord}

-- the line that a record holds
abbrev pub line_of : LineRecord → Line
line_of r = (r.tail, r.head, r.least, r.most)

-- the network of so many nodes and these records
abbrev pub net_of : ℕ → List LineRecord → Net
net_of n records = record { nodes = n; lines = map line_of records }
