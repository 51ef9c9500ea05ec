-- What is shown of a legend, read off the memory of a sift.
use Rattle.network.specs.Key.{Key}
use Rattle.rendering.specs.Render.{Table}
use Rattle.rendering.specs.Tables.{table_of}
use Rattle.rendering.specs.declared.shown.Shown.{Shown}

-- by the lines that the legend answers
abbrev pub table : {L B : Type 0} → (L → Key) → Shown L B → Table
table key s = table_of (key s.legend.now) s.flow.now s.verdicts.now
