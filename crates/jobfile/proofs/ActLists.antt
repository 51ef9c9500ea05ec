-- The acts before a block of acts, and those in it.
use Rattle.std.proofs.Common.{◌≡◌, ℕ, ◌+◌, ◌<◌, ◌≤◌, List, [], ◌∷◌, ◌++◌, length, get_or, take, drop, Some, None, Option, sym, ap, ◌∙◌, subst, arith, MatchOption, length-append}
use Rattle.std.specs.List.{slice_get, range_with_len, flat_map}
use Rattle.std.proofs.lemmas.List.{take_more, take_all, take-append-drop}
use Rattle.std.proofs.lemmas.List.Concat.{flat_map-append, get_or-flat_map}
use Rattle.std.proofs.lemmas.List.FromFn.{length-range_with_len, get_or-range_with_len, length-map-range_with_len, get_or-map-range_with_len}
use Rattle.std.proofs.lemmas.Option.{slice_get-get_or, slice_get_past}
use Rattle.blocks.specs.Block.{block_of, record_of, record_count}
use Rattle.contents.specs.declared.act.Act.{Act}
use Rattle.contents.specs.declared.act.Act.TheVariants.{Query}
use Rattle.records.specs.Records.{GoodAct, act_from}
use Rattle.layout.specs.Places.{block_count, parts_in, signs_in}
use Rattle.layout.specs.declared.kind.Kind.TheVariants.{Acts}
use Rattle.layout.proofs.BlockKinds.{good_as}
use Rattle.jobfile.specs.Contents.{acts_of, acts_in, acts_from, act_blocks}
use Rattle.jobfile.specs.Formed.{Formed}

module _ (file : List ℕ) where
  -- the places of the blocks of acts among their kind
  abbrev places : List ℕ
  places = range_with_len 0 (act_blocks file)

  -- the acts of the blocks before the block a of theirs
  abbrev pub acts_before : ℕ → List Act
  acts_before a = flat_map (acts_in file) (take a places)

  place_at : (a : ℕ) → a < act_blocks file → get_or places a 0 ≡ a
  place_at a h = omega (arith, get_or-range_with_len 0 (act_blocks file) a 0 h)

  -- one block more
  pub acts_next : (a : ℕ) → a < act_blocks file → length (acts_before (a + 1)) ≡ length (acts_before a) + length (acts_in file a)
  acts_next a h =
      let inside : a < length places = omega (arith, length-range_with_len 0 (act_blocks file)) in
      let more = take_more places a 0 inside ∙ ap (λ (b : ℕ). take a places ++ b ∷ []) (place_at a h) in
      let split = ap length (flat_map-append (acts_in file) (take a places) (a ∷ [])) in
      ap (λ (bs : List ℕ). length (flat_map (acts_in file) bs)) more ∙ omega (arith, split, length-append (acts_before a) (acts_in file a ++ []), length-append (acts_in file a) [])

  pub acts_all : (a : ℕ) → act_blocks file ≤ a → acts_before a ≡ acts_of file
  acts_all a h = ap (flat_map (acts_in file)) (take_all a places (omega (arith, length-range_with_len 0 (act_blocks file))))

  acts_within : (a : ℕ) → length (acts_before a) ≤ length (acts_of file)
  acts_within a =
      let split = ap length (ap (flat_map (acts_in file)) (sym (take-append-drop a places)) ∙ flat_map-append (acts_in file) (take a places) (drop a places)) in
      omega (arith, split, length-append (acts_before a) (flat_map (acts_in file) (drop a places)))

  pub acts_long : (a : ℕ) → length (acts_in file a) ≡ record_count (block_of file (acts_from file + a))
  acts_long a = length-map-range_with_len _ 0 _

  -- the act of a record of the block a
  pub act_here : (a r : ℕ) → a < act_blocks file → r < length (acts_in file a) → slice_get (acts_of file) (length (acts_before a) + r) ≡ Some (act_from (record_of (block_of file (acts_from file + a)) r))
  act_here a r h l =
      let inside : length (acts_before a) + r < length (acts_of file) = omega (arith, acts_next a h, acts_within (a + 1)) in
      let first = get_or-flat_map (acts_in file) places a r 0 Query (omega (arith, length-range_with_len 0 (act_blocks file))) (subst (λ (b : ℕ). r < length (acts_in file b)) (sym (place_at a h)) l) in
      let there = get_or-map-range_with_len (λ r. act_from (record_of (block_of file (acts_from file + a)) r)) 0 (record_count (block_of file (acts_from file + a))) r r Query (omega (arith, acts_long a)) (omega arith) in
      slice_get-get_or (acts_of file) (length (acts_before a) + r) Query inside ∙ ap Some (first ∙ ap (λ (b : ℕ). get_or (acts_in file b) r Query) (place_at a h) ∙ there)

  -- the records of the acts' blocks hold acts
  pub act_good : (b r : ℕ) → acts_from file ≤ b → Formed file → b < block_count file → r < record_count (block_of file b) → GoodAct (record_of (block_of file b) r)
  act_good b r from formed to h = (good_as Acts file (parts_in file) (signs_in file) b from (formed.blocks b (omega arith) to)).1 r h

pub act_found : (bytes same : List ℕ) → bytes ≡ same → GoodAct same → (r : Option Act) → MatchOption r (GoodAct bytes → ⊥) (λ act. GoodAct bytes × (act ≡ act_from bytes)) → r ≡ Some (act_from same)
act_found bytes same e good None h = absurd (h (subst GoodAct (sym e) good))
act_found bytes same e good (Some act) h = ap Some (h.1 ∙ ap act_from e)

-- the act that was found at a record is the one that is asked for
pub act_told : (file : List ℕ) (a r k : ℕ) (bytes : List ℕ) (found : Option Act) → Formed file → a < act_blocks file → r < length (acts_in file a) → k ≡ length (acts_before file a) + r → bytes ≡ record_of (block_of file (acts_from file + a)) r
    → MatchOption found (GoodAct bytes → ⊥) (λ act. GoodAct bytes × (act ≡ act_from bytes)) → found ≡ slice_get (acts_of file) k
act_told file a r k bytes found formed h l at is told =
    let good = act_good file (acts_from file + a) r (omega arith) formed (omega arith) (omega (arith, acts_long file a)) in
    act_found bytes _ is good found told ∙ sym (act_here file a r h l) ∙ ap (slice_get (acts_of file)) (sym at)

pub ruleset act_lists = (length-map-range_with_len, acts_next, acts_all, slice_get_past)
