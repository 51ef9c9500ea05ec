-- The checks of a file's form, joined.
use Rattle.std.proofs.Common.{◌≡◌, ℕ, min, List, ap, ◌∙◌, subst, inr, arith}
use Rattle.contents.specs.Labels.{Labelled}
use Rattle.layout.specs.Places.{block_count, parts_in, signs_in}
use Rattle.layout.specs.Form.{GoodBlocks}
use Rattle.jobfile.specs.Contents.{names_of, texts_of, labels_of, contents_of}
use Rattle.jobfile.specs.Format.{FileOf}
use Rattle.jobfile.proofs.Files.{file_of}
use Rattle.jobfile.specs.Formed.{Formed, HeadRead, SizeRefused, FormRefused}
use Rattle.jobfile.specs.declared.fault.JobFault.{JobFault}
use Rattle.jobfile.specs.declared.fault.JobFault.TheVariants.{Record, Length, TooMany, Short, Load, Unordered}

abbrev pub labelled : List (List ℕ) → List (List ℕ) → Labelled
labelled names texts = record { names = names; texts = texts }

pub good_in : (file : List ℕ) (n m : ℕ) → n ≡ parts_in file → m ≡ signs_in file → GoodBlocks file n m 1 (block_count file) → GoodBlocks file (parts_in file) (signs_in file) 1 (block_count file)
good_in file n m p q h =
    subst (λ (k : ℕ). GoodBlocks file (parts_in file) k 1 (block_count file)) q (subst (λ (k : ℕ). GoodBlocks file k m 1 (block_count file)) p h)

pub size_refused : (file : List ℕ) (parts signs : ℕ) → HeadRead file → (e : JobFault) → SizeRefused file parts signs e → FormRefused file parts signs e
size_refused file parts signs read (Record e) h = absurd h
size_refused file parts signs read Length h = inr (read, h)
size_refused file parts signs read TooMany h = absurd h
size_refused file parts signs read Short h = (read, h)
size_refused file parts signs read (Load e n) h = absurd h
size_refused file parts signs read Unordered h = absurd h

-- at most 64 labels are handed out, and no more are there
pub all_labels : (file : List ℕ) → Formed file → (min 64 (parts_in file) ≡ parts_in file) × (min 64 (signs_in file) ≡ signs_in file)
all_labels file formed =
    let few = formed.read.few.parts in
    let less = formed.read.few.signs in
    (omega arith, omega arith)

pub labels_are : (file : List ℕ) (n m : ℕ) → n ≡ parts_in file → m ≡ signs_in file → labelled (names_of file n) (texts_of file m) ≡ labels_of file
labels_are file n m p q = ap (λ (k : ℕ). labelled (names_of file k) (texts_of file m)) p ∙ ap (λ (k : ℕ). labelled (names_of file (parts_in file)) (texts_of file k)) q

-- a file whose form was found right is the file of what it holds, and hands out all its labels
pub found_right : (file : List ℕ) → Formed file → FileOf file (contents_of file) × (labelled (names_of file (min 64 (parts_in file))) (texts_of file (min 64 (signs_in file))) ≡ labels_of file)
found_right file formed = let all = all_labels file formed in (file_of file formed, labels_are file _ _ all.0 all.1)
