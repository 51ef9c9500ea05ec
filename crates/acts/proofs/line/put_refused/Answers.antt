use Rattle.std.proofs.Common.{rules, arith}
use Rattle.text.proofs.Putting.{digits_long, digits_short, puts_front, puts_then, room_after}
use Rattle.acts.proofs.line.put_refused.Goals as goal

pub put_number-requires : goal.put_number-requires
put_number-requires c = grind (arith, digits_long)

pub put_byte-requires : goal.put_byte-requires
put_byte-requires c = grind (arith, digits_long, room_after c.put_number.ensures)

pub put_number-requires-2 : goal.put_number-requires-2
put_number-requires-2 c = grind (arith, digits_long, digits_short, room_after c.put_number.ensures, room_after c.put_byte.ensures)

pub put_byte-requires-2 : goal.put_byte-requires-2
put_byte-requires-2 c = grind (arith, digits_long, digits_short, room_after c.put_number.ensures, room_after c.put_byte.ensures, room_after c.put_number-2.ensures)

pub returns : goal.returns
returns c =
    let start = c.new-line.ensures in
    let rest = puts_then c.put_byte.ensures (puts_then c.put_number-2.ensures c.put_byte-2.ensures) in
    let told = c.from.ensures in
    rw (← told) (puts_front (puts_then c.put_number.ensures rest) start.empty start.kept (search rules) c.len.ensures)
