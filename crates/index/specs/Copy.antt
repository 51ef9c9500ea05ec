-- Line records that hold the lines of a network.
use Rattle.std.specs.Prelude.{◌≡◌, ℕ, ◌<◌, List}
use Rattle.network.specs.Net.{Net, line, told}
use Rattle.network.specs.Records.{net_of}
use Rattle.network.specs.declared.line_record.LineRecord.{LineRecord}

-- the first n records hold what is told of the first n lines
abbrev pub Held : Net → List LineRecord → ℕ → Type 0
Held g records n = (k : ℕ) → k < n → told (line (net_of g.nodes records) k) ≡ told (line g k)
