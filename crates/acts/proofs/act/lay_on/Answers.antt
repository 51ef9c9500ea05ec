use Rattle.std.proofs.Common.{Ok, Err}
use Rattle.std.proofs.lemmas.Result.{err_from_is_err_and}
use Rattle.acts.proofs.Logging.{lays_on}
use Rattle.acts.proofs.act.lay_on.Goals as goal

pub returns-in_err-lay : goal.returns-in_err-lay
returns-in_err-lay g c =
    let p = err_from_is_err_and c.from_residual.result c.from_residual.ensures.1 in
    rw (c.in-Some.is, p.1, p.2) (lays_on g.L.Network.meaning c.args.layer.now c.lay.new.self _ (Err c.in_err-lay.field-0.0) c.in_err-lay.ensures)

pub returns : goal.returns
returns g c = rw c.in-Some.is (lays_on g.L.Network.meaning c.args.layer.now c.lay.new.self _ (Ok tt) c.in_ok-lay.ensures)
