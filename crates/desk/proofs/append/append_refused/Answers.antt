use Rattle.std.proofs.Common.{vec_items, subst}
use Rattle.text.proofs.Places.{placed_front}
use Rattle.desk.specs.Steps.{Appended}
use Rattle.desk.proofs.append.append_refused.Goals as goal

pub returns : goal.returns
returns c =
    subst (λ bytes. Appended (vec_items c.args.transcript.now) (vec_items c.append_front.new.transcript) bytes c.append_front.result) (placed_front c.put_refused-written.ensures) c.append_front.ensures
