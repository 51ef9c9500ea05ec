-- A fact about three values that have another name.
use Rattle.std.proofs.Common.{◌≡◌, sym, subst}

pub renamed : {A B C : Type 0} (P : A → B → C → Type 0) {a a' : A} {b b' : B} {c c' : C} → a' ≡ a → b' ≡ b → c' ≡ c → P a b c → P a' b' c'
renamed P {a} {a'} {b} {b'} {c} {c'} p q r h = subst (λ x. P x b' c') (sym p) (subst (λ y. P a y c') (sym q) (subst (P a b) (sym r) h))
