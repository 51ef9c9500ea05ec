-- The entries that stand in a column.
use Rattle.std.specs.Prelude.{◌≡◌, List, [], ◌∷◌, ◌++◌, Some, None, Option}
use Rattle.layers.specs.declared.column.Column.{Column}
use Rattle.layers.specs.declared.entry.Entry.{Entry}

abbrev pub entries_of : Column → List Entry
entries_of c = c.entries.items

-- taking the last entry away: it is handed out; where none stands, nothing changes
abbrev pub Popped : Column → Column → Option Entry → Type 0
Popped before after (Some e) = entries_of before ≡ entries_of after ++ e ∷ []
Popped before after None = (entries_of before ≡ []) × (after ≡ before)
