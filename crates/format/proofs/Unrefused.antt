-- What passes a check is not refused by it.
use Rattle.std.proofs.Common.{◌≡◌, ℕ, ◌-◌, ◌≤◌, List, length, subst, inl, inr, ⊎_elim, arith}
use Rattle.std.proofs.lemmas.List.FromFn.{length-map-range_with_len}
use Rattle.series.specs.Load.{Loadable, LoadRefused, SizeFault, PartFault, SignFault}
use Rattle.series.specs.declared.load.LoadRefusal.{LoadRefusal}
use Rattle.series.specs.declared.load.LoadRefusal.TheVariants as load
use Rattle.series.specs.declared.records.PartRecord.{PartRecord}
use Rattle.series.specs.declared.records.SignRecord.{SignRecord}
use Rattle.blocks.specs.declared.fault.BlockFault.TheVariants as block
use Rattle.records.specs.declared.fault.RecordFault.{RecordFault}
use Rattle.records.specs.declared.fault.RecordFault.TheVariants as fault
use Rattle.layout.specs.Places.{parts_in, signs_in, least_total, most_total}
use Rattle.layout.specs.Form.{GoodBlock, FirstBad, Faulty}
use Rattle.jobfile.specs.Contents.{Contents, parts_of, signs_of}
use Rattle.jobfile.specs.Format.{FileOf}
use Rattle.jobfile.specs.Formed.{Formed, Room, FormRefused}
use Rattle.jobfile.specs.Reading.{Loads, NetRefused, Refused}
use Rattle.jobfile.specs.declared.fault.JobFault.{JobFault}
use Rattle.jobfile.specs.declared.fault.JobFault.TheVariants.{Record, Length, TooMany, Short, Load, Unordered}
use Rattle.format.proofs.Exact.{at_head, contents_are, formed}

no_bad : (file : List ℕ) (n m b r : ℕ) → GoodBlock file n m b → FirstBad file n m b r → ⊥
no_bad file n m b r good bad = bad.bad (good.records (r - 1) (omega (arith, bad.some, bad.inside)))

pub no_fault : (file : List ℕ) (n m b : ℕ) (e : RecordFault) → GoodBlock file n m b → Faulty file n m b e → ⊥
no_fault file n m b (fault.Block (block.Check p)) good h = h.1 good.block.check
no_fault file n m b (fault.Block (block.Layout p)) good h = h.2 good.block.laid
no_fault file n m b (fault.Job p r) good h = no_bad file n m b r good h.2
no_fault file n m b (fault.Act p r) good h = no_bad file n m b r good h.2

pub form_unrefused : (file : List ℕ) (parts signs : ℕ) (e : JobFault) → Formed file → Room file parts signs → FormRefused file parts signs e → ⊥
form_unrefused file parts signs (Record e) good room (inl h) = no_fault file 0 0 0 e good.read.head h.1
form_unrefused file parts signs (Record e) good room (inr h) = let first = h.1 in no_fault file (parts_in file) (signs_in file) first.at e (good.blocks first.at first.behind first.inside) first.fault
form_unrefused file parts signs Length good room (inl h) = h good.read.sized
form_unrefused file parts signs Length good room (inr h) = h.1 good.whole
form_unrefused file parts signs TooMany good room h = h.1.1 good.read.few
form_unrefused file parts signs Short good room h = h.1.1 room
form_unrefused file parts signs (Load e n) good room h = h
form_unrefused file parts signs Unordered good room h = h

module _ (n m : ℕ) (parts : List PartRecord) (signs : List SignRecord) (l : Loadable n m parts signs) where
  size_unrefused : (e : LoadRefusal) → SizeFault n m parts signs e → ⊥
  size_unrefused load.Short (inl h) = omega (arith, l.sized.parts_there)
  size_unrefused load.Short (inr h) = omega (arith, l.sized.signs_there)
  size_unrefused load.TooMany h = ⊎_elim (λ g. omega (arith, l.sized.parts_few)) (λ g. omega (arith, l.sized.signs_few)) h.2
  size_unrefused (load.Sign s) h = h
  size_unrefused (load.Mask p) h = h
  size_unrefused (load.Standing p) h = h

  part_unrefused : (e : LoadRefusal) → PartFault n m parts e → ⊥
  part_unrefused load.Short h = h
  part_unrefused load.TooMany h = h
  part_unrefused (load.Sign s) h = h
  part_unrefused (load.Mask p) h = omega (arith, (l.parts_sound p h.0).mask, h.3)
  part_unrefused (load.Standing p) h = omega (arith, (l.parts_sound p h.0).standing, h.2)

  sign_unrefused : (e : LoadRefusal) → SignFault m signs e → ⊥
  sign_unrefused load.Short h = h
  sign_unrefused load.TooMany h = h
  sign_unrefused (load.Sign s) h = h.2 (l.signs_sound s h.0)
  sign_unrefused (load.Mask p) h = h
  sign_unrefused (load.Standing p) h = h

  load_unrefused : (e : LoadRefusal) → LoadRefused n m parts signs e → ⊥
  load_unrefused e (inl h) = size_unrefused e h
  load_unrefused e (inr (inl h)) = part_unrefused e h.1
  load_unrefused e (inr (inr h)) = sign_unrefused e h.2

net_unrefused : (file : List ℕ) (e : JobFault) → Formed file → Loads file → least_total file ≤ most_total file → NetRefused file e → ⊥
net_unrefused file (Record e) good l o h = h
net_unrefused file Length good l o h = h
net_unrefused file TooMany good l o h = h good.read.few
net_unrefused file Short good l o h = h
net_unrefused file (Load e n) good l o h = load_unrefused (parts_in file) (signs_in file) (parts_of file) (signs_of file) l e h.1
net_unrefused file Unordered good l o h = omega (arith, h.1)

unrefused : (file : List ℕ) (parts signs : ℕ) (e : JobFault) → Formed file → Room file parts signs → Loads file → least_total file ≤ most_total file → Refused file parts signs e → ⊥
unrefused file parts signs e good room l o (inl h) = form_unrefused file parts signs e good room h
unrefused file parts signs e good room l o (inr h) = net_unrefused file e good l o h.2

abbrev Fine : ℕ → ℕ → Contents → Type 0
Fine parts signs c = (length c.parts ≤ parts) × (length c.signs ≤ signs) × Loadable (length c.parts) (length c.signs) c.parts c.signs × (c.lo ≤ c.hi)

-- the same of what a file of the format holds
pub accepted : (file : List ℕ) (c : Contents) (parts signs : ℕ) (e : JobFault) → FileOf file c → Fine parts signs c → Refused file parts signs e → ⊥
accepted file c parts signs e f fine refused =
    let here = subst (Fine parts signs) (contents_are file c (at_head file c f)) fine in
    let n : length (parts_of file) ≡ parts_in file = length-map-range_with_len _ 0 (parts_in file) in
    let m : length (signs_of file) ≡ signs_in file = length-map-range_with_len _ 0 (signs_in file) in
    let loads : Loads file = subst (λ (k : ℕ). Loadable (parts_in file) k (parts_of file) (signs_of file)) m (subst (λ (k : ℕ). Loadable k (length (signs_of file)) (parts_of file) (signs_of file)) n here.2) in
    unrefused file parts signs e (formed file c (at_head file c f)) record { parts' = omega (arith, n, here.0); signs' = omega (arith, m, here.1) } loads here.3 refused
