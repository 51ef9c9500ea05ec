use Rattle.std.proofs.Common.{Ok}
use Rattle.acts.proofs.Logging.{undoes_on}
use Rattle.acts.proofs.act.take_back.Goals as goal

pub returns : goal.returns
returns g c = undoes_on g.L.Network.meaning c.args.layer.now c.undo.new.self (Ok c.in_ok-undo.field-0) c.in_ok-undo.ensures
