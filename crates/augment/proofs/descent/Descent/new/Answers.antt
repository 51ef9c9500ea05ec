use Rattle.std.proofs.Common.{length, ap, ◌∙◌, arith}
use Rattle.augment.proofs.Cursors.{cursors_start}
use Rattle.augment.proofs.descent.Descent.new.Goals as goal

pub returns-clause-ready : goal.returns-clause-ready
returns-clause-ready c =
    record {
      levels = c.requires.distance;
      cursors = cursors_start _ _ (c.rewind.auto.cursor ∙ c.requires.cursor) (λ v l. c.rewind.ensures v (omega (arith, c.requires.cursor)));
      places = ap length c.new.ensures.kept ∙ c.requires.walk;
    }
