-- Networks of the same meaning have the same present bounds, the same entries can stand on them, and they mean the same under them.
use Rattle.std.proofs.Common.{◌≡◌, ℕ, ◌<◌, List, take, sym, ap, ◌∙◌, arith}
use mathlib.Core.Path.{fun_ext}
use Rattle.std.proofs.lemmas.List.{get_or_past}
use Rattle.std.proofs.lemmas.Bool.Decides.{nat_tests}
use Rattle.network.specs.Net.{Net, Line, Same, size, line, no_line, tail, head, least, most}
use Rattle.layers.specs.Entries.{bounds_of, bounded, with_bounds, bounds_under}
use Rattle.layers.specs.Narrow.{narrowed}
use Rattle.layers.specs.Present.{present_of, present, present_net, Standing}
use Rattle.layers.specs.Under.{size_bounded, line_bounded}
use Rattle.layers.specs.declared.entry.Bounds.{Bounds}
use Rattle.layers.specs.declared.entry.Entry.{Entry}

module _ (g h : Net) (same : Same g h) where
  line_bounds_same : (k : ℕ) → bounds_of (line g k) ≡ bounds_of (line h k)
  line_bounds_same k =
      grind (arith, nat_tests, same.count, same.leasts k, same.mosts k, get_or_past g.lines k no_line, get_or_past h.lines k no_line)

  pub bounds_under_same : (es : List Entry) → bounds_under g es ≡ bounds_under h es
  bounds_under_same es = fun_ext (λ k. ap (λ b. narrowed k b es) (line_bounds_same k))

  pub present_same : (es : List Entry) → present g es ≡ present h es
  present_same es = fun_ext (λ k. ap (λ b. present_of b es k) (line_bounds_same k))

  pub standing_same : (es : List Entry) → Standing g es → Standing h es
  standing_same es s i l = rw (← same.count, ← present_same (take i es)) (s i l)

  module _ (b c : ℕ → Bounds) (e : b ≡ c) where
    -- what is told of a line is the same if it is the same of the line with its bounds set
    told_same : (f : Line → ℕ) (k : ℕ) → k < size (with_bounds g b) → ((inside : k < size g) → f (bounded (line g k) (b k)) ≡ f (bounded (line h k) (c k))) → f (line (with_bounds g b) k) ≡ f (line (with_bounds h c) k)
    told_same f k l alike =
        let inside : k < size g = omega (arith, l, size_bounded g b) in
        ap f (line_bounded g b k inside) ∙ alike inside ∙ sym (ap f (line_bounded h c k (omega (arith, inside, same.count))))

    pub with_bounds_same : Same (with_bounds g b) (with_bounds h c)
    with_bounds_same = record {
      nodes = same.nodes;
      count = size_bounded g b ∙ same.count ∙ sym (size_bounded h c);
      tails = λ k l. told_same tail k l (same.tails k);
      heads = λ k l. told_same head k l (same.heads k);
      leasts = λ k l. told_same least k l (λ _. ap (λ bounds. (bounds k).least) e);
      mosts = λ k l. told_same most k l (λ _. ap (λ bounds. (bounds k).most) e);
    }

  pub present_net_same : (es : List Entry) → Same (present_net g es) (present_net h es)
  present_net_same es = with_bounds_same (present g es) (present h es) (present_same es)
