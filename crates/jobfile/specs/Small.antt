-- The labels that a job file hands out, within the limits of labels: this is shown here, for every value of the type.
use Rattle.std.specs.Prelude.{ℕ, ◌<◌, ◌≤◌, min, List, [], map, length, slice_index_or}
use Rattle.std.proofs.Common.{sym, subst, arith}
use Rattle.std.specs.List.{range_with_len}
use Rattle.std.proofs.lemmas.List.FromFn.{length-map-range_with_len, get_or-map-range_with_len}
use Rattle.contents.specs.Labels.{Labelled, Small}
use Rattle.records.proofs.Labels.{label_small}
use Rattle.layout.specs.Places.{parts_start, signs_start, record_at, parts_in, signs_in, name_at, text_at}
use Rattle.jobfile.specs.Contents.{names_of, texts_of}
use Rattle.jobfile.specs.declared.file.JobFile.{JobFile}

-- the first 64 names and texts; a file that was found right has no more
abbrev pub handed_out : JobFile → Labelled
handed_out x = record { names = names_of x.file.now (min 64 (parts_in x.file.now)); texts = texts_of x.file.now (min 64 (signs_in x.file.now)) }

-- so many labels, each of at most so many bytes
each_small : (f : ℕ → List ℕ) (n size : ℕ) → ((k : ℕ) → length (f k) ≤ size) → (k : ℕ) → k < length (map f (range_with_len 0 n)) → length (slice_index_or (map f (range_with_len 0 n)) k []) ≤ size
each_small f n size small k h =
    let inside : k < n = omega (arith, length-map-range_with_len f 0 n) in
    subst (λ (x : List ℕ). length x ≤ size) (sym (get_or-map-range_with_len f 0 n k k [] inside (omega arith))) (small k)

pub small_labels : (x : JobFile) → Small (handed_out x)
small_labels x =
    let file = x.file.now in
    record {
      parts = omega (arith, length-map-range_with_len (name_at file) 0 (min 64 (parts_in file)));
      signs = omega (arith, length-map-range_with_len (text_at file (parts_in file)) 0 (min 64 (signs_in file)));
      names = each_small (name_at file) (min 64 (parts_in file)) 20 (λ p. label_small 20 (record_at file parts_start p));
      texts = each_small (text_at file (parts_in file)) (min 64 (signs_in file)) 8 (λ s. label_small 8 (record_at file (signs_start (parts_in file)) s));
    }
