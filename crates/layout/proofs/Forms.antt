-- The form of a block: its first bad record, and whether a sign's text is a new one.
use Rattle.std.proofs.Common.{◌≡◌, ℕ, ◌+◌, ◌-◌, ◌<◌, ◌≤◌, Bool, true, false, not, List, Result, length, get_or, Decides, MatchBool, sym, refl, subst, arith}
use Rattle.std.specs.List.{range_with_len, AllWithin, HoldsAt}
use Rattle.std.proofs.lemmas.Bool.{false≢true}
use Rattle.std.proofs.lemmas.List.FromFn.{length-range_with_len, get_or-range_with_len}
use Rattle.blocks.specs.Block.{block_of, record_count}
use Rattle.blocks.specs.Faults.{BlockRead}
use Rattle.blocks.specs.declared.block.Expected.{Expected}
use Rattle.blocks.specs.declared.fault.BlockFault.{BlockFault}
use Rattle.records.specs.declared.fault.RecordFault.{RecordFault}
use Rattle.records.specs.Text.{SameText}
use Rattle.layout.specs.Kinds.{kind_of}
use Rattle.layout.specs.Places.{text_at}
use Rattle.layout.specs.Form.{expects, expected_of, FormRead, BlockForm, RecordForm, RecordsForm, FirstBad, Faulty, fault_at, fault_of, NewText}
use Rattle.layout.specs.declared.kind.Kind.{Kind}
use Rattle.layout.specs.declared.kind.Kind.TheVariants.{Head, Parts, Signs, Acts}
use Rattle.layout.proofs.BlockKinds.{StandsAmong, kind_told}

-- what reading a block as the one that is expected gives
pub form_read : (file block : List ℕ) (n m b : ℕ) (e : Expected) (r : Result ℕ BlockFault) → e ≡ expects n m b → block ≡ block_of file b → BlockRead e.kind b e.fewest e.utmost block r → FormRead file n m b r
form_read file block n m b e r p q h =
    subst (λ (x : List ℕ). BlockRead (expects n m b).kind b (expects n m b).fewest (expects n m b).utmost x r) q (subst (λ (x : Expected). BlockRead x.kind b x.fewest x.utmost block r) p h)

-- the sign t has the text of the sign s
abbrev pub Repeats : List ℕ → (n s t : ℕ) → Type 0
Repeats file n s t = SameText (text_at file n t) (text_at file n s)

pub text_told : (file : List ℕ) (n s : ℕ) (r : Bool) → MatchBool r ((k : ℕ) × (k < length (range_with_len 0 s)) × HoldsAt (Repeats file n s) (range_with_len 0 s) k) (AllWithin (λ t. Repeats file n s t → ⊥) (range_with_len 0 s) 0 (length (range_with_len 0 s))) → Decides (not r) (NewText file n s)
text_told file n s true h =
    let inside : h.0 < s = omega (arith, h.1, length-range_with_len 0 s) in
    (λ e. absurd (false≢true e), λ new. absurd (new (get_or (range_with_len 0 s) h.0 0) (omega (arith, inside, get_or-range_with_len 0 s h.0 0 inside)) (h.2 0)))
text_told file n s false h = (
  λ _ t l.
      let at : get_or (range_with_len 0 s) t 0 ≡ t = omega (arith, get_or-range_with_len 0 s t 0 l) in
      subst (λ (k : ℕ). Repeats file n s k → ⊥) at (h t 0 (omega arith) (omega (arith, length-range_with_len 0 s))),
  λ _. refl,
)

-- a block holds at most 16 records of its kind
few : (k : Kind) (n m b : ℕ) → (expected_of k n m b).utmost ≤ 16
few Head n m b = omega arith
few Parts n m b = omega arith
few Signs n m b = omega arith
few Acts n m b = omega arith

pub expects_few : (n m b : ℕ) → (expects n m b).utmost ≤ 16
expects_few n m b = few (kind_of n m b) n m b

-- the record at r is the first bad one; counted from 1 it is r + 1
pub first_bad : (file : List ℕ) (n m b r : ℕ) → BlockForm file n m b → r < record_count (block_of file b) → RecordsForm file n m b r → (RecordForm file n m b r → ⊥) → FirstBad file n m b (r + 1)
first_bad file n m b r form inside before bad =
    let back : r + 1 - 1 ≡ r = omega arith in
    record {
      block = form;
      some = omega arith;
      inside = omega arith;
      before = λ q h. before q (omega arith);
      bad = λ good. bad (subst (RecordForm file n m b) back good);
    }

faulty_at : (k : Kind) (file : List ℕ) (n m b r : ℕ) → StandsAmong k n m b → FirstBad file n m b r → Faulty file n m b (fault_at k b r)
faulty_at Head file n m b r h bad = (refl, omega arith, bad)
faulty_at Parts file n m b r h bad = (refl, omega arith, bad)
faulty_at Signs file n m b r h bad = (refl, h.1, bad)
faulty_at Acts file n m b r h bad = (refl, h, bad)

pub faulty : (file : List ℕ) (n m b r : ℕ) (e : RecordFault) → FirstBad file n m b r → e ≡ fault_of n m b r → Faulty file n m b e
faulty file n m b r e bad is = subst (Faulty file n m b) (sym is) (faulty_at (kind_of n m b) file n m b r (kind_told n m b) bad)

-- its fault is the first of the block
pub first_faulty : (file : List ℕ) (n m b r : ℕ) → BlockForm file n m b → r < record_count (block_of file b) → RecordsForm file n m b r → (RecordForm file n m b r → ⊥) → Faulty file n m b (fault_at (kind_of n m b) b (r + 1))
first_faulty file n m b r form inside before bad = faulty_at (kind_of n m b) file n m b (r + 1) (kind_told n m b) (first_bad file n m b r form inside before bad)
