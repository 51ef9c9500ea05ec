-- A file of the format passes the checks of the form, and holds what its bytes give.
use Rattle.std.proofs.Common.{◌≡◌, ℕ, ◌+◌, ◌-◌, ◌*◌, ◌/◌, ◌%◌, ◌<◌, ◌≤◌, List, [], map, length, get_or, sym, ap, ◌∙◌, subst, ⊎_elim, arith}
use Rattle.std.specs.List.{range_with_len}
use Rattle.std.proofs.lemmas.List.FromFn.{fill_by_all}
use Rattle.std.proofs.lemmas.Bool.{cases_lt}
use Rattle.series.specs.Load.{no_record}
use Rattle.series.specs.Sound.{no_sign}
use Rattle.series.specs.declared.records.PartRecord.{PartRecord}
use Rattle.series.specs.declared.records.SignRecord.{SignRecord}
use Rattle.blocks.specs.Block.{Block, block_of, record_of, record_count}
use Rattle.contents.specs.Labels.{Labelled}
use Rattle.contents.specs.declared.act.Act.{Act}
use Rattle.contents.specs.declared.act.Act.TheVariants.{Query}
use Rattle.records.specs.Records.{part_from, sign_from, act_from, GoodHead, GoodPart, GoodSign}
use Rattle.records.specs.Text.{SameText}
use Rattle.layout.specs.Places.{block_count, blocks_for, filled, parts_start, signs_start, record_at, parts_in, signs_in, least_total, most_total, name_at, text_at}
use Rattle.layout.specs.Form.{GoodBlock, sign_held, NewText}
use Rattle.layout.specs.declared.kind.Kind.TheVariants.{Parts, Signs, Acts}
use Rattle.layout.proofs.BlockKinds.{good_from}
use Rattle.jobfile.specs.Contents.{Contents, contents_of, parts_of, signs_of, names_of, texts_of, labels_of, acts_from, acts_in, act_blocks}
use Rattle.jobfile.specs.Format.{FileFor, FileOf}
use Rattle.jobfile.specs.Formed.{Formed}
use Rattle.format.proofs.Held.{label_is, part_is, sign_is, act_is, good_head, good_part, good_sign, good_act}

-- the numbers of parts and signs are those that the head's record gives
pub at_head : (file : List ℕ) (c : Contents) → FileOf file c → FileFor file c (parts_in file) (signs_in file)
at_head file c f =
    subst (λ (k : ℕ). FileFor file c (parts_in file) k) (sym f.head_held.signs) (subst (λ (k : ℕ). FileFor file c k (length c.signs)) (sym f.head_held.parts) f)

module _ (file : List ℕ) (c : Contents) (f : FileFor file c (parts_in file) (signs_in file)) where
  blocks_are : block_count file ≡ acts_from file + length c.acts
  blocks_are = omega (arith, f.long)

  act_blocks_hold : length c.acts ≡ act_blocks file
  act_blocks_hold = omega (arith, blocks_are)

  parts_are : c.parts ≡ parts_of file
  parts_are = fill_by_all (λ p. part_from (record_at file parts_start p)) c.parts (parts_in file) no_record f.parts (λ p h. part_is _ _ _ (f.parts_held p h))

  names_are : c.labels.names ≡ names_of file (parts_in file)
  names_are = fill_by_all (name_at file) c.labels.names (parts_in file) [] f.names (λ p h. label_is 20 _ _ (omega (arith, (f.parts_held p h).long)) (f.parts_held p h).label)

  signs_are : c.signs ≡ signs_of file
  signs_are = fill_by_all (λ s. sign_from (record_at file (signs_start (parts_in file)) s)) c.signs (signs_in file) no_sign f.signs (λ s h. sign_is _ _ _ (f.signs_held s h))

  text_is : (s : ℕ) → s < signs_in file → get_or c.labels.texts s [] ≡ text_at file (parts_in file) s
  text_is s h = label_is 8 _ _ (omega (arith, (f.signs_held s h).long)) (f.signs_held s h).label

  texts_are : c.labels.texts ≡ texts_of file (signs_in file)
  texts_are = fill_by_all (text_at file (parts_in file)) c.labels.texts (signs_in file) [] f.texts text_is

  act_count : (a : ℕ) → a < length c.acts → length (get_or c.acts a []) ≡ record_count (block_of file (acts_from file + a))
  act_count a h = let block = f.act_blocks a h in omega (arith, block.block.laid.some, block.block.laid.few)

  acts_are : c.acts ≡ map (acts_in file) (range_with_len 0 (act_blocks file))
  acts_are =
      fill_by_all (acts_in file) c.acts (act_blocks file) [] act_blocks_hold (λ a h.
      let inside : a < length c.acts = omega (arith, act_blocks_hold) in
      fill_by_all (λ r. act_from (record_of (block_of file (acts_from file + a)) r)) (get_or c.acts a []) (record_count (block_of file (acts_from file + a))) Query (act_count a inside) (λ r l. act_is _ _ ((f.act_blocks a inside).held r (omega (arith, act_count a inside)))))

  pub contents_are : c ≡ contents_of file
  contents_are =
      let labels : List (List ℕ) → List (List ℕ) → Labelled = λ names texts. record { names = names; texts = texts } in
      let made : List PartRecord → List SignRecord → Labelled → ℕ → ℕ → List (List Act) → Contents = λ parts signs labels lo hi acts. record { parts = parts; signs = signs; labels = labels; lo = lo; hi = hi; acts = acts } in
      ap (λ (x : List PartRecord). made x c.signs c.labels c.lo c.hi c.acts) parts_are
      ∙ ap (λ (x : List SignRecord). made (parts_of file) x c.labels c.lo c.hi c.acts) signs_are
      ∙ ap (λ (x : List (List ℕ)). made (parts_of file) (signs_of file) (labels x c.labels.texts) c.lo c.hi c.acts) names_are
      ∙ ap (λ (x : List (List ℕ)). made (parts_of file) (signs_of file) (labels (names_of file (parts_in file)) x) c.lo c.hi c.acts) texts_are
      ∙ ap (λ (x : ℕ). made (parts_of file) (signs_of file) (labels_of file) x c.hi c.acts) (sym f.head_held.least)
      ∙ ap (λ (x : ℕ). made (parts_of file) (signs_of file) (labels_of file) (least_total file) x c.acts) (sym f.head_held.most)
      ∙ ap (λ (x : List (List Act)). made (parts_of file) (signs_of file) (labels_of file) (least_total file) (most_total file) x) acts_are

  part_block : (q : ℕ) → q < blocks_for (parts_in file) → GoodBlock file (parts_in file) (signs_in file) (1 + q)
  part_block q h =
      let n = parts_in file in
      let block = f.part_blocks q h in
      let back : q ≡ 1 + q - 1 = omega arith in
      good_from Parts file (parts_in file) (signs_in file) (1 + q) (omega arith, omega arith) (
        subst (λ (b : ℕ). Block 80 (1 + q) (filled n b) (filled n b) (block_of file (1 + q))) back block,
        λ r l.
            let p : 16 * q + r < parts_in file = omega (arith, block.laid.few) in
            let small : r < 16 = omega (arith, block.laid.few) in
            let at : (16 * q + r) / 16 ≡ q = omega arith in
            let in' : (16 * q + r) % 16 ≡ r = omega arith in
            subst (λ (i : ℕ). GoodPart (record_of (block_of file (1 + q)) i)) in' (subst (λ (i : ℕ). GoodPart (record_of (block_of file (1 + i)) ((16 * q + r) % 16))) at (good_part _ _ _ (f.parts_held (16 * q + r) p))),
      )

  new_text : (s : ℕ) → s < signs_in file → NewText file (parts_in file) s
  new_text s h t l same =
      f.apart t s l h (subst (λ (x : List ℕ). SameText x (get_or c.labels.texts s [])) (sym (text_is t (omega arith))) (subst (λ (x : List ℕ). SameText (text_at file (parts_in file) t) x) (sym (text_is s h)) same))

  sign_block : (q : ℕ) → q < blocks_for (signs_in file) → GoodBlock file (parts_in file) (signs_in file) (signs_start (parts_in file) + q)
  sign_block q h =
      let m = signs_in file in
      let start = signs_start (parts_in file) in
      let block = f.sign_blocks q h in
      let back : q ≡ signs_start (parts_in file) + q - signs_start (parts_in file) = omega arith in
      good_from Signs file (parts_in file) (signs_in file) (start + q) (omega arith, omega arith) (
        subst (λ (b : ℕ). Block 83 (start + q) (filled m b) (filled m b) (block_of file (start + q))) back block,
        λ r l.
            let s : 16 * q + r < signs_in file = omega (arith, block.laid.few) in
            let small : r < 16 = omega (arith, block.laid.few) in
            let at : (16 * q + r) / 16 ≡ q = omega arith in
            let in' : (16 * q + r) % 16 ≡ r = omega arith in
            let held : 16 * q + r ≡ sign_held (parts_in file) (signs_start (parts_in file) + q) r = omega arith in
            (subst (λ (i : ℕ). GoodSign (record_of (block_of file (start + q)) i)) in' (subst (λ (i : ℕ). GoodSign (record_of (block_of file (start + i)) ((16 * q + r) % 16))) at (good_sign _ _ _ (f.signs_held (16 * q + r) s))), subst (NewText file (parts_in file)) held (new_text (16 * q + r) s)),
      )

  act_block : (a : ℕ) → a < length c.acts → GoodBlock file (parts_in file) (signs_in file) (acts_from file + a)
  act_block a h =
      let acts = f.act_blocks a h in
      let laid = acts.block.laid in
      good_from Acts file (parts_in file) (signs_in file) (acts_from file + a) (omega arith) (
        record {
          check = acts.block.check;
          laid = record { long = laid.long; kind = laid.kind; some = omega (arith, acts.some, acts.block.laid.some); few = omega (arith, acts.few, acts.block.laid.few); place = laid.place; rest = laid.rest };
        },
        λ r l. good_act _ _ (acts.held r (omega (arith, acts.block.laid.some, acts.block.laid.few))),
      )

  any_block : (b : ℕ) → 1 ≤ b → b < block_count file → GoodBlock file (parts_in file) (signs_in file) b
  any_block b from to =
      let n = parts_in file in
      let Good : ℕ → Type 0 = GoodBlock file (parts_in file) (signs_in file) in
      ⊎_elim (λ l. let e : 1 + (b - 1) ≡ b = omega arith in subst Good e (part_block (b - 1) (omega arith)))
      (λ g. ⊎_elim (λ l. let e : signs_start (parts_in file) + (b - signs_start (parts_in file)) ≡ b = omega arith in subst Good e (sign_block (b - signs_start (parts_in file)) (omega arith)))
      (λ k. let e : acts_from file + (b - acts_from file) ≡ b = omega arith in subst Good e (act_block (b - acts_from file) (omega (arith, blocks_are))))
      (cases_lt b (acts_from file)))
      (cases_lt b (signs_start (parts_in file)))

  pub formed : Formed file
  formed = record {
    read = record {
      sized = record {
        some = omega (arith, f.long);
        even = omega (arith, f.long);
        few = omega (arith, f.long, f.few_parts, f.few_signs, f.few_acts);
      };
      head = record {
        block = f.head;
        records = λ r l. let zero' : 0 ≡ r = omega (arith, f.head.laid.few) in subst (λ (i : ℕ). GoodHead (record_of (block_of file 0) i)) zero' (good_head _ _ _ _ _ f.head_held);
      };
      few = record { parts = f.few_parts; signs = f.few_signs };
    };
    whole = record { job = omega (arith, blocks_are); acts = omega (arith, blocks_are, f.few_acts) };
    blocks = any_block;
  }
