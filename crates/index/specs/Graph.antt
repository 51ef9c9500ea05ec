-- A network in memory, as the theory has it.
use Rattle.std.specs.Prelude.{ℕ, ◌+◌, ◌-◌, List, take, drop}
use Rattle.network.specs.Net.{Net}
use Rattle.network.specs.Records.{net_of}
use Rattle.index.specs.declared.graph.Graph.{Graph}
use Rattle.index.specs.declared.step.Step.{Step}
use Rattle.index.specs.Rows.{start}

-- the network that it holds
abbrev pub net : Graph → Net
net g = net_of g.nodes g.lines.now

-- the steps of a node's row, from where it begins to where the next one does
abbrev pub row_of : Graph → ℕ → List Step
row_of g v = take (start g.starts.now (v + 1) - start g.starts.now v) (drop (start g.starts.now v) g.steps.now)
