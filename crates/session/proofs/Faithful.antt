-- The promise follows from what is played.
use Rattle.std.proofs.Common.{◌≡◌, ℕ, List, get_or, Some, Result, sym, ap, ◌∙◌, subst, arith}
use Rattle.network.specs.Net.{Net}
use Rattle.layers.specs.Present.{present, present_net}
use Rattle.layers.specs.declared.entry.Entry.{Entry}
use Rattle.layers.proofs.Same.{present_net_same}
use Rattle.layers.specs.Under.{size_bounded}
use Rattle.sift.specs.Sifted.{Sifted}
use Rattle.sift.specs.declared.refusal.SiftRefusal.{SiftRefusal}
use Rattle.session.specs.Log.{standing}
use Rattle.session.specs.Promise.{held, Answered, Played, Agree, SiftsAgree, Faithful, no_turn}
use Rattle.session.specs.declared.turn.Answer.TheVariants.{Sifted as Told}
use Rattle.session.specs.declared.turn.Buffers.{Buffers}
use Rattle.session.specs.declared.turn.Call.{Call}
use Rattle.session.specs.declared.turn.Call.TheVariants.{Lay, Undo, Sift}
use Rattle.session.specs.declared.turn.Turn.{Turn}
use Rattle.session.proofs.Agree.{sifts_agree}

-- what is known of a turn whose answer is that of a sift
record Known (g : Net) (es : List Entry) (b : Buffers) (r : Result (Unit {0}) SiftRefusal) : Type 0 where
  before : Buffers
  sifted : Sifted (present_net g es) (held before) (held b) r

known : (g : Net) (es : List Entry) (call : Call) (t : Turn) (b : Buffers) (r : Result (Unit {0}) SiftRefusal) → Answered g es call t
    → t ≡ record { call = Sift b; answer = Some (Told r) } → Known g es b r
known g es (Lay e) t b r h is =
    let apart = ap (λ u. u.answer) (sym h ∙ is) in let z : ◌≡◌ {A = ℕ} 0 1 = cc in absurd (omega arith)
known g es Undo t b r h is = let apart = ap (λ u. u.answer) (sym h ∙ is) in let z : ◌≡◌ {A = ℕ} 0 1 = cc in absurd (omega arith)
known g es (Sift c) t b r h is =
    let calls = ap (λ u. u.call) (sym h.turn ∙ is) in
    let answers = ap (λ u. u.answer) (sym h.turn ∙ is) in
    let eb : h.buffers ≡ b = cc in
    let er : h.answer ≡ r = cc in
    record {
      before = c;
      sifted = subst (λ x. Sifted (present_net g es) (held c) (held x) r) eb (subst (λ x. Sifted (present_net g es) (held c) (held h.buffers) x) er h.sifted);
    }

-- the entries leave the number of lines as it is
agree_below : (g : Net) (es : List Entry) (b c : Buffers) (r q : Result (Unit {0}) SiftRefusal) → Agree (present_net g es) (held b) (held c) r q → Agree g (held b) (held c) r q
agree_below g es b c r q a = record {
  flow = a.flow;
  verdicts = λ ok l i. a.verdicts ok l (omega (arith, size_bounded g (present g es)));
  fixed = λ ok l i. a.fixed ok l (omega (arith, size_bounded g (present g es)));
}

pub sifts_agree_over : (g h : Net) (first first' second second' : List Turn) → Played g first first' → Played h second second' → SiftsAgree g first first' h second second'
sifts_agree_over g h first first' second second' p q s i j li lj es b c r u eb ec nr nu =
    let x = known g (standing g first i) (get_or first i no_turn).call (get_or first' i no_turn) b r (p.each i li) eb in
    let y = known h (standing h second j) (get_or second j no_turn).call (get_or second' j no_turn) c u (q.each j lj) ec in
    let yes = subst (λ xs. Sifted (present_net h xs) (held y.before) (held c) u) (sym es) y.sifted in
    agree_below g (standing g first i) b c r u (sifts_agree (present_net g (standing g first i)) (present_net h (standing g first i)) (present_net_same g h s (standing g first i)) (held x.before) (held b) (held y.before) (held c) r u x.sifted yes nr nu)

pub faithful : (g h : Net) (first first' second second' : List Turn) → Played g first first' → Played h second second' → Faithful g h first first' second second'
faithful g h first first' second second' p q = record {
  played = p;
  played_too = q;
  in_first = sifts_agree_over g g first first' first first' p p;
  in_second = sifts_agree_over h h second second' second second' q q;
  across = sifts_agree_over g h first first' second second' p q;
}
