-- The record of an act: what lies behind its first three bytes, and what the three bytes name.
use Rattle.std.proofs.Common.{◌≡◌, ℕ, ◌+◌, ◌-◌, List, length, take, drop, Some, None, Option, sym, ap, ◌∙◌, subst, arith, MatchOption}
use Rattle.std.proofs.lemmas.List.{get_or-drop, take_rest}
use Rattle.blocks.specs.Bytes.{byte_at, Zeros}
use Rattle.contents.specs.declared.act.Act.{Act}
use Rattle.records.specs.Records.{Names, GoodAct, act_from}

rest_at : (bytes : List ℕ) (i : ℕ) → byte_at (take (length bytes - 3) (drop 3 bytes)) i ≡ byte_at bytes (3 + i)
rest_at bytes i = ap (λ (xs : List ℕ). byte_at xs i) (take_rest bytes 3) ∙ get_or-drop 3 bytes i 0

pub zeros_behind : (bytes : List ℕ) → Zeros 0 27 (take (length bytes - 3) (drop 3 bytes)) → Zeros 3 30 bytes
zeros_behind bytes z i a b =
    let e : 3 + (i - 3) ≡ i = omega arith in
    subst (λ (k : ℕ). byte_at bytes k ≡ 0) e (sym (rest_at bytes (i - 3)) ∙ z (i - 3) (omega arith) (omega arith))

pub zeros_of_rest : (bytes : List ℕ) → Zeros 3 30 bytes → Zeros 0 27 (take (length bytes - 3) (drop 3 bytes))
zeros_of_rest bytes z i a b = rest_at bytes i ∙ z (3 + i) (omega arith) (omega arith)

pub act_held : (bytes : List ℕ) → length bytes ≡ 30 → Zeros 3 30 bytes → (r : Option Act)
    → MatchOption r (Names (act_from bytes) (byte_at bytes 0) (byte_at bytes 1) (byte_at bytes 2) → ⊥) (λ act. Names act (byte_at bytes 0) (byte_at bytes 1) (byte_at bytes 2) × (act ≡ act_from bytes))
    → MatchOption r (GoodAct bytes → ⊥) (λ act. GoodAct bytes × (act ≡ act_from bytes))
act_held bytes l z None h = λ good. h good.named
act_held bytes l z (Some act) h = (record { long = l; named = subst (λ (a : Act). Names a (byte_at bytes 0) (byte_at bytes 1) (byte_at bytes 2)) h.1 h.0; rest = z }, h.1)
