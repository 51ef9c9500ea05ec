-- The network that a listed network holds.
use Rattle.network.specs.Net.{Net}
use Rattle.network.specs.Records.{net_of}
use Rattle.listed.specs.declared.lent.Listed.{Listed}

abbrev pub held : Listed → Net
held s = net_of s.nodes s.records.now
