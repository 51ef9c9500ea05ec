-- A copy of a network's lines, one line more at a time, and what it comes to.
use Rattle.std.proofs.Common.{◌≡◌, ℕ, ◌+◌, ◌<◌, List, length, set, Some, None, sym, refl, ap, ◌∙◌, arith, below_more}
use Rattle.std.specs.List.{slice_get}
use Rattle.std.specs.Option.{option_map}
use Rattle.std.proofs.lemmas.List.{get_or-set_same, get_or-set_other}
use Rattle.std.proofs.lemmas.Option.{slice_get-get_or}
use Rattle.network.specs.Net.{Net, Limits, Same, size, line, no_line, told}
use Rattle.network.specs.Records.{line_of, net_of}
use Rattle.network.specs.declared.line_record.LineRecord.{LineRecord}
use Rattle.index.specs.Copy.{Held}
use Rattle.network.proofs.Records.{size_is, line_is, no_record}

-- what a network answers at a place where it has a line
module _ (g : Net) (k : ℕ) (inside : k < size g) where
  answer : option_map told (slice_get g.lines k) ≡ Some (told (line g k))
  answer = ap (option_map told) (slice_get-get_or g.lines k no_line inside)

  pub answer_is : (x : ℕ × ℕ × ℕ × ℕ) → Some x ≡ option_map told (slice_get g.lines k) → x ≡ told (line g k)
  answer_is x e = cc answer

  pub answered : None ≡ option_map told (slice_get g.lines k) → ⊥
  answered e = let never : ◌≡◌ {A = ℕ} 0 1 = cc answer in omega arith

module _ (g : Net) (records : List LineRecord) where
  pub held_more : (i : ℕ) (r : LineRecord) → i < length records → told (line_of r) ≡ told (line g i) → Held g records i → Held g (set records i r) (i + 1)
  held_more i r inside new old =
      below_more _ _
      (λ k h. ap told (line_is g.nodes (set records i r) k ∙ ap line_of (get_or-set_other records i k r no_record (omega arith)) ∙ sym (line_is g.nodes records k)) ∙ old k h)
      (ap told (line_is g.nodes (set records i r) i ∙ ap line_of (get_or-set_same records i r no_record inside)) ∙ new)

  pub same_from_held : length records ≡ size g → Held g records (size g) → Same (net_of g.nodes records) g
  same_from_held long held =
      let size_is = size_is g.nodes records in
      record {
        nodes = refl;
        count = size_is ∙ long;
        tails = λ k h. ap (λ t. t.0) (held k (omega arith));
        heads = λ k h. ap (λ t. t.1) (held k (omega arith));
        leasts = λ k h. ap (λ t. t.2) (held k (omega arith));
        mosts = λ k h. ap (λ t. t.3) (held k (omega arith));
      }

-- networks of the same meaning keep the same limits
pub limits_same : (m n : Net) → Same m n → Limits n → Limits m
limits_same m n same limits =
    record {
      nodes = omega (arith, same.nodes, limits.nodes);
      count = omega (arith, same.count, limits.count);
      each = λ k h.
          let fit = limits.each k (omega (arith, same.count)) in
          record {
            tail = omega (arith, same.tails k h, same.nodes, fit.tail);
            head = omega (arith, same.heads k h, same.nodes, fit.head);
            ordered = omega (arith, same.leasts k h, same.mosts k h, fit.ordered);
            small = omega (arith, same.mosts k h, fit.small);
          };
    }
