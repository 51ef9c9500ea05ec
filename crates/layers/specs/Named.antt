-- Which lines entries name, kept as one mark for each line.
use Rattle.std.specs.Prelude.{◌≡◌, ℕ, Bool, true, false, List, All, slice_index_or}
use Rattle.layers.specs.declared.entry.Bound.TheVariants.{AtLeast}
use Rattle.layers.specs.declared.entry.Entry.{Entry}

-- the entry that stands for a place where there is none
abbrev pub no_entry : Entry
no_entry = record { line = 0; bound = AtLeast; amount = 0 }

-- the line at a place is marked
abbrev pub marks : List Bool → ℕ → Bool
marks named place = slice_index_or named place false

-- the lines that these entries name are marked
abbrev pub Marked : List Bool → List Entry → Type 0
Marked named entries = All (λ e. marks named e.line ≡ true) entries
