use Rattle.std.proofs.Common.{rules, arith}
use Rattle.text.proofs.Putting.{digits_long, puts_front, puts_then, room_after}
use Rattle.acts.proofs.line.put_accepted.Goals as goal

pub put_number-requires : goal.put_number-requires
put_number-requires c = grind (arith, digits_long)

pub put-requires : goal.put-requires
put-requires c = grind (arith, digits_long, room_after c.put_number.ensures)

pub returns : goal.returns
returns c =
    let start = c.new-line.ensures in
    puts_front (puts_then c.put_number.ensures c.put.ensures) start.empty start.kept (search rules) c.len.ensures
