-- Texts put in order, one more at a time.
use Rattle.std.proofs.Common.{ℕ, ◌+◌, List, add-one}
use Rattle.buffers.specs.declared.places.Places.{Places}
use Rattle.text.specs.Puts.{Puts}
use Rattle.text.proofs.Putting.{puts_then}
use Rattle.rendering.specs.Render.{in_order}

pub puts_next : {t u v : Places ℕ} (n : ℕ) (f : ℕ → List ℕ) → Puts t (in_order n f) u → Puts u (f n) v → Puts t (in_order (n + 1) f) v
puts_next n f p q = rw add-one (puts_then p q)
