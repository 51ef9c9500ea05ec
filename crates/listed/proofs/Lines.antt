-- What is told of the lines of a list of records, by place.
use Rattle.std.proofs.Common.{◌≡◌, ℕ, ◌<◌, ◌≤◌, List, map, length, get_or, Some, None, sym, ap, ◌∙◌, arith}
use Rattle.std.specs.List.{slice_get}
use Rattle.std.proofs.lemmas.List.{length-map, get_or-map}
use Rattle.std.proofs.lemmas.Option.{slice_get-get_or, slice_get_past}
use Rattle.network.specs.Records.{line_of}
use Rattle.network.specs.declared.line_record.LineRecord.{LineRecord}

-- what is told of a line at a place that holds a record, and past the last one
pub told_at : (records : List LineRecord) (k : ℕ) (r : LineRecord) → k < length records → r ≡ get_or records k r → slice_get (map line_of records) k ≡ Some (line_of r)
told_at records k r inside read =
    let long = length-map records line_of in
    slice_get-get_or (map line_of records) k (line_of r) (omega arith) ∙ ap Some (get_or-map line_of records k r (line_of r) inside ∙ ap line_of (sym read))

pub told_past : (records : List LineRecord) (k : ℕ) → length records ≤ k → slice_get (map line_of records) k ≡ None
told_past records k past = let long = length-map records line_of in slice_get_past (map line_of records) k (omega arith)
