-- What is kept of the records that a load is handed: of sound ones just what they say, and else the first fault.
use Rattle.std.proofs.Common.{◌≡◌, ℕ, ◌<◌, ◌≤◌, List, map, length, get_or, take, Ok, Err, Result, MatchResult, sym, ap, ◌∙◌, subst, ⊎_elim, arith, get_or-take, length-take}
use Rattle.std.proofs.lemmas.List.{ext_get_or, length-map, get_or-map, length-take-le}
use Rattle.arrayvec.specs.ArrayVec.{ArrayVec}
use Rattle.series.specs.Job.{no_part}
use Rattle.series.specs.Load.{KeptFirst, RefusedFirst, KeepsAll, KeepsPart, KeepsSign, SoundParts, PartFault, SignFault, part_of, no_record}
use Rattle.series.specs.Sound.{no_sign, SoundSign, SoundSigns}
use Rattle.series.specs.declared.load.LoadRefusal.{LoadRefusal}
use Rattle.series.specs.declared.records.Part.{Part}
use Rattle.series.specs.declared.records.PartRecord.{PartRecord}
use Rattle.series.specs.declared.records.SignRecord.{SignRecord}

-- signs that begin with the same ones are as sound
pub sound_kept : (m : ℕ) (from to : List SignRecord) → take m to ≡ take m from → SoundSigns from m → SoundSigns to m
sound_kept m from to same sound s h =
    let read = sym (get_or-take m from s no_sign h) ∙ ap (λ xs. get_or xs s no_sign) (sym same) ∙ get_or-take m to s no_sign h in
    subst SoundSign read (sound s h)

-- a rule that follows from another keeps the same
pub keeps_all_by : {R T E : Type 0} (Gives Keeps : ℕ → R → Result T E → Type 0) → ((k : ℕ) (r : R) (o : Result T E) → Gives k r o → Keeps k r o) → (records : List R) (result : Result (ArrayVec T) E) → KeepsAll Gives records result → KeepsAll Keeps records result
keeps_all_by Gives Keeps by records (Ok v) h = record { long = h.long; each = λ k l r t. by k _ _ (h.each k l r t) }
keeps_all_by Gives Keeps by records (Err e) h = record {
  place = h.place;
  inside = h.inside;
  kept = h.kept;
  before = record { long = h.before.long; each = λ k l r t. by k _ _ (h.before.each k l r t) };
  refused = λ r. by h.place _ _ (h.refused r);
}

module _ (n m : ℕ) (records : List PartRecord) (there : n ≤ length records) where
  parts_sound : (i : ℕ) (kept : List Part) → i ≤ n → KeptFirst (KeepsPart m) (take n records) i kept → SoundParts i m records
  parts_sound i kept few h p l = rw (get_or-take n records p no_record (omega arith)) at (h.each p l no_record no_part).0

  parts_are : (kept : List Part) → KeptFirst (KeepsPart m) (take n records) (length (take n records)) kept → kept ≡ map part_of (take n records)
  parts_are kept h =
      let long = length-map (take n records) part_of in
      ext_get_or no_part kept (map part_of (take n records)) (h.long ∙ sym long) (λ p l. let inside : p < length (take n records) = omega (arith, h.long) in (h.each p inside no_record no_part).1 ∙ sym (get_or-map part_of (take n records) p no_record no_part inside))

  part_fault : (e : LoadRefusal) → RefusedFirst (KeepsPart m) (take n records) e → PartFault n m records e
  part_fault e h =
      let inside : h.place < n = omega (arith, h.inside, length-take n records) in
      let sound = parts_sound h.place h.kept (omega arith) h.before in
      let fault = rw (get_or-take n records h.place no_record inside) at (h.refused no_record) in
      ⊎_elim (λ standing. subst (PartFault n m records) (sym standing.0) (inside, sound, standing.1)) (λ mask. subst (PartFault n m records) (sym mask.0) (inside, sound, mask.1, mask.2)) fault

  pub parts_kept : (result : Result (ArrayVec Part) LoadRefusal) → KeepsAll (KeepsPart m) (take n records) result → MatchResult result (λ v. SoundParts n m records × (v.items ≡ map part_of (take n records))) (PartFault n m records)
  parts_kept (Ok v) h = let long = length-take-le n records there in let few : n ≤ n = omega arith in (parts_sound n v.items few (rw long at h), parts_are v.items h)
  parts_kept (Err e) h = part_fault e h

module _ (m : ℕ) (records : List SignRecord) (there : m ≤ length records) where
  signs_sound : (i : ℕ) (kept : List SignRecord) → i ≤ m → KeptFirst KeepsSign (take m records) i kept → SoundSigns records i
  signs_sound i kept few h s l = rw (get_or-take m records s no_sign (omega arith)) at (h.each s l no_sign no_sign).0

  signs_are : (kept : List SignRecord) → KeptFirst KeepsSign (take m records) (length (take m records)) kept → kept ≡ take m records
  signs_are kept h = ext_get_or no_sign kept (take m records) h.long (λ s l. (h.each s (omega (arith, h.long)) no_sign no_sign).1)

  sign_fault : (e : LoadRefusal) → RefusedFirst KeepsSign (take m records) e → SignFault m records e
  sign_fault e h =
      let inside : h.place < m = omega (arith, h.inside, length-take m records) in
      let sound = signs_sound h.place h.kept (omega arith) h.before in
      let fault = rw (get_or-take m records h.place no_sign inside) at (h.refused no_sign) in
      subst (SignFault m records) (sym fault.0) (inside, sound, fault.1)

  pub signs_kept : (result : Result (ArrayVec SignRecord) LoadRefusal) → KeepsAll KeepsSign (take m records) result → MatchResult result (λ v. SoundSigns records m × (v.items ≡ take m records)) (SignFault m records)
  signs_kept (Ok v) h = let long = length-take-le m records there in let few : m ≤ m = omega arith in (signs_sound m v.items few (rw long at h), signs_are v.items h)
  signs_kept (Err e) h = sign_fault e h
