use Rattle.std.proofs.Common.{Ok, ap}
use Rattle.texts.proofs.Putting.{puts-both, puts-cut, puts-same}
use Rattle.pages.specs.Memory.{value_item, peek_at}
use Rattle.pages.proofs.Below.{below_next}
use Rattle.pages.proofs.memory.put_word.Goals as goal

pub returns-in_err-put_value : goal.returns-in_err-put_value
returns-in_err-put_value g c =
    let m = c.args.machine.now in
    puts-cut (value_item (peek_at g.row.SETS m c.args.addr)) c.in_err-put_value.was (puts-same (ap value_item (c.raw.ensures.value m.sent (below_next m.flights m.sent c.are_in_order.ensures.numbered))) c.put_value.ensures) c.from_residual.ensures.0

pub returns : goal.returns
returns g c =
    let m = c.args.machine.now in
    puts-both (puts-same {r = Ok tt} (ap value_item (c.raw.ensures.value m.sent (below_next m.flights m.sent c.are_in_order.ensures.numbered))) c.in_ok-put_value.ensures)
    (puts-same (ap value_item (c.peek.ensures.value m.sent (below_next m.flights m.sent c.are_in_order.ensures.numbered))) c.put_value-2.ensures)
