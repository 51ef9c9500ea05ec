-- A file whose form was found right is the file of what it holds.
use Rattle.std.proofs.Common.{◌≡◌, ℕ, ◌+◌, ◌-◌, ◌*◌, ◌/◌, ◌%◌, ◌<◌, ◌≤◌, List, [], length, get_or, sym, subst, arith}
use Rattle.std.proofs.lemmas.List.FromFn.{length-map-range_with_len, get_or-map-range_with_len}
use Rattle.series.specs.Load.{no_record}
use Rattle.series.specs.Sound.{no_sign}
use Rattle.series.specs.declared.records.PartRecord.{PartRecord}
use Rattle.series.specs.declared.records.SignRecord.{SignRecord}
use Rattle.blocks.specs.Block.{Block, block_of, record_of, record_count}
use Rattle.contents.specs.declared.act.Act.{Act}
use Rattle.contents.specs.declared.act.Act.TheVariants.{Query}
use Rattle.records.specs.Records.{PartBytes, SignBytes, ActBytes, GoodPart, GoodSign, part_from, sign_from, act_from}
use Rattle.records.specs.Text.{SameText}
use Rattle.layout.specs.Places.{block_count, blocks_for, filled, parts_start, signs_start, acts_start, record_at, parts_in, signs_in, name_at, text_at}
use Rattle.layout.specs.Form.{sign_held, NewText}
use Rattle.layout.specs.declared.kind.Kind.{Kind}
use Rattle.layout.specs.declared.kind.Kind.TheVariants.{Parts, Signs, Acts}
use Rattle.layout.proofs.BlockKinds.{StandsAmong, GoodAs, good_as}
use Rattle.jobfile.specs.Contents.{contents_of, parts_of, signs_of, names_of, texts_of, acts_from, acts_in, act_blocks}
use Rattle.jobfile.specs.Format.{ActBlock, FileFor, FileOf}
use Rattle.jobfile.specs.Formed.{Formed}
use Rattle.jobfile.proofs.ActLists.{act_good}

module _ (file : List ℕ) (formed : Formed file) where
  whole_length : length file ≡ 512 * block_count file
  whole_length = omega (arith, formed.read.sized.even)

  -- a block of a kind, which is good
  good : (k : Kind) (b : ℕ) → 1 ≤ b → b < block_count file → StandsAmong k (parts_in file) (signs_in file) b → GoodAs k file (parts_in file) (signs_in file) b
  good k b some inside h = good_as k file (parts_in file) (signs_in file) b h (formed.blocks b some inside)

  part_block : (b : ℕ) → b < blocks_for (parts_in file) → Block 80 (parts_start + b) (filled (parts_in file) b) (filled (parts_in file) b) (block_of file (parts_start + b))
  part_block b h =
      let back : 1 + b - 1 ≡ b = omega arith in
      subst (λ (q : ℕ). Block 80 (1 + b) (filled (parts_in file) q) (filled (parts_in file) q) (block_of file (1 + b))) back (good Parts (1 + b) (omega arith) (omega (arith, formed.whole.job)) (omega arith, omega arith)).0

  sign_block : (b : ℕ) → b < blocks_for (signs_in file) → Block 83 (signs_start (parts_in file) + b) (filled (signs_in file) b) (filled (signs_in file) b) (block_of file (signs_start (parts_in file) + b))
  sign_block b h =
      let at = signs_start (parts_in file) + b in
      let back : signs_start (parts_in file) + b - signs_start (parts_in file) ≡ b = omega arith in
      subst (λ (q : ℕ). Block 83 at (filled (signs_in file) q) (filled (signs_in file) q) (block_of file at)) back (good Signs at (omega arith) (omega (arith, formed.whole.job)) (omega arith, omega arith)).0

  part_good : (p : ℕ) → p < parts_in file → GoodPart (record_at file parts_start p)
  part_good p h =
      let block = part_block (p / 16) (omega arith) in
      (good Parts (1 + p / 16) (omega arith) (omega (arith, formed.whole.job)) (omega arith, omega arith)).1 (p % 16) (omega (arith, block.laid.some))

  sign_good : (s : ℕ) → s < signs_in file → GoodSign (record_at file (signs_start (parts_in file)) s) × NewText file (parts_in file) s
  sign_good s h =
      let at = signs_start (parts_in file) + s / 16 in
      let block = sign_block (s / 16) (omega arith) in
      let found = (good Signs at (omega arith) (omega (arith, formed.whole.job)) (omega arith, omega arith)).1 (s % 16) (omega (arith, block.laid.some)) in
      let is : sign_held (parts_in file) (signs_start (parts_in file) + s / 16) (s % 16) ≡ s = omega arith in
      (found.0, subst (NewText file (parts_in file)) is found.1)

  act_block : (a : ℕ) → a < act_blocks file → ActBlock file (acts_from file + a) (acts_in file a)
  act_block a h =
      let block = (good Acts (acts_from file + a) (omega arith) (omega arith) (omega arith)).0 in
      let k : length (acts_in file a) ≡ record_count (block_of file (acts_from file + a)) = length-map-range_with_len _ 0 _ in
      record {
        some = omega (arith, k, block.laid.some);
        few = omega (arith, k, block.laid.few);
        block = record {
          check = block.check;
          laid = record { long = block.laid.long; kind = block.laid.kind; some = omega (arith, k); few = omega (arith, k); place = block.laid.place; rest = block.laid.rest };
        };
        held = λ r l.
            let inside : r < record_count (block_of file (acts_from file + a)) = omega (arith, k) in
            subst (λ (x : Act). ActBytes x (record_of (block_of file (acts_from file + a)) r)) (sym (get_or-map-range_with_len (λ r. act_from (record_of (block_of file (acts_from file + a)) r)) 0 (record_count (block_of file (acts_from file + a))) r r Query inside (omega arith))) (act_good file (acts_from file + a) r (omega arith) formed (omega arith) inside);
      }

  part_held : (p : ℕ) → p < parts_in file → PartBytes (get_or (parts_of file) p no_record) (get_or (names_of file (parts_in file)) p []) (record_at file parts_start p)
  part_held p h =
      subst (λ (x : PartRecord). PartBytes x (get_or (names_of file (parts_in file)) p []) (record_at file parts_start p)) (sym (get_or-map-range_with_len (λ p. part_from (record_at file parts_start p)) 0 (parts_in file) p p no_record h (omega arith)))
      (subst (λ (x : List ℕ). PartBytes (part_from (record_at file parts_start p)) x (record_at file parts_start p)) (sym (get_or-map-range_with_len (name_at file) 0 (parts_in file) p p [] h (omega arith))) (part_good p h))

  text_is : (s : ℕ) → s < signs_in file → get_or (texts_of file (signs_in file)) s [] ≡ text_at file (parts_in file) s
  text_is s h = get_or-map-range_with_len (text_at file (parts_in file)) 0 (signs_in file) s s [] h (omega arith)

  sign_is_held : (s : ℕ) → s < signs_in file → SignBytes (get_or (signs_of file) s no_sign) (get_or (texts_of file (signs_in file)) s []) (record_at file (signs_start (parts_in file)) s)
  sign_is_held s h =
      let bytes = record_at file (signs_start (parts_in file)) s in
      subst (λ (x : SignRecord). SignBytes x (get_or (texts_of file (signs_in file)) s []) (record_at file (signs_start (parts_in file)) s)) (sym (get_or-map-range_with_len (λ s. sign_from (record_at file (signs_start (parts_in file)) s)) 0 (signs_in file) s s no_sign h (omega arith)))
      (subst (λ (x : List ℕ). SignBytes (sign_from (record_at file (signs_start (parts_in file)) s)) x (record_at file (signs_start (parts_in file)) s)) (sym (text_is s h)) (sign_good s h).0)

  texts_apart : (t s : ℕ) → t < s → s < signs_in file → SameText (get_or (texts_of file (signs_in file)) t []) (get_or (texts_of file (signs_in file)) s []) → ⊥
  texts_apart t s l h same =
      (sign_good s h).1 t l (subst (λ (x : List ℕ). SameText x (text_at file (parts_in file) s)) (text_is t (omega arith)) (subst (λ (x : List ℕ). SameText (get_or (texts_of file (signs_in file)) t []) x) (text_is s h) same))

  file_for : FileFor file (contents_of file) (parts_in file) (signs_in file)
  file_for =
      let blocks : length (contents_of file).acts ≡ act_blocks file = length-map-range_with_len (acts_in file) 0 (act_blocks file) in
      record {
        parts = length-map-range_with_len _ 0 (parts_in file);
        names = length-map-range_with_len _ 0 (parts_in file);
        signs = length-map-range_with_len _ 0 (signs_in file);
        texts = length-map-range_with_len _ 0 (signs_in file);
        few_parts = formed.read.few.parts;
        few_signs = formed.read.few.signs;
        few_acts = omega (arith, blocks, formed.whole.acts);
        long = omega (arith, blocks, whole_length, formed.whole.job);
        head = formed.read.head.block;
        head_held = formed.read.head.records 0 formed.read.head.block.laid.some;
        part_blocks = part_block;
        parts_held = part_held;
        sign_blocks = sign_block;
        signs_held = sign_is_held;
        apart = texts_apart;
        act_blocks = λ a h.
            let inside : a < act_blocks file = omega (arith, blocks) in
            subst (ActBlock file (acts_start (parts_in file) (signs_in file) + a)) (sym (get_or-map-range_with_len (acts_in file) 0 (act_blocks file) a a [] inside (omega arith))) (act_block a inside);
      }

  pub file_of : FileOf file (contents_of file)
  file_of =
      subst (λ (k : ℕ). FileFor file (contents_of file) (length (parts_of file)) k) (sym (length-map-range_with_len _ 0 (signs_in file))) (subst (λ (k : ℕ). FileFor file (contents_of file) k (signs_in file)) (sym (length-map-range_with_len _ 0 (parts_in file))) file_for)
