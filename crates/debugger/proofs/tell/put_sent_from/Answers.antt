use Rattle.std.proofs.Common.{◌≤◌, ◌+◌, Ok, sym, arith}
use Rattle.texts.proofs.Putting.{puts-nothing, puts-same, puts-both, puts-cut}
use Rattle.network.proofs.Walks.{text_from, none_yet, one_met, all_met, met_and_left, goes_on}
use Rattle.debugger.specs.Texts.{line_from}
use Rattle.debugger.proofs.Told.{no_line, its_line}
use Rattle.debugger.proofs.tell.put_sent_from.Goals as goal

pub loop-flight-init : goal.loop-flight-init
loop-flight-init g c = (omega arith, puts-same {r = Ok tt} (none_yet (line_from c.args.from) c.args.from c.args.machine.now.flights (no_line c.args.from)) (puts-nothing _))

pub returns-in_err-put_sent : goal.returns-in_err-put_sent
returns-in_err-put_sent g c =
    let from = c.args.from in
    let flights = c.args.machine.now.flights in
    let f = c.in-Some.flight.now in
    let low : from ≤ c.loop-flight.number = c.loop-flight.invariant.0 in
    let on = goes_on c.loop-flight.number c.args.machine.now.sent flights f c.are_in_order.ensures.numbered (sym c.in-Some.ensures) in
    let line = puts-same (its_line from f (omega (arith, low, on.0))) c.put_sent.ensures in
    puts-same (met_and_left (line_from from) c.loop-flight.number flights f c.are_in_order.ensures.order c.in-Some.ensures)
    (puts-cut (text_from (line_from from) (f.number + 1) flights) c.in_err-put_sent.was (puts-both c.loop-flight.invariant.1 line) c.from_residual.ensures.0)

pub loop-flight-preserved : goal.loop-flight-preserved
loop-flight-preserved g c =
    let from = c.args.from in
    let flights = c.args.machine.now.flights in
    let f = c.in-Some.flight.now in
    let low : from ≤ c.loop-flight.number = c.loop-flight.invariant.0 in
    let on = goes_on c.loop-flight.number c.args.machine.now.sent flights f c.are_in_order.ensures.numbered (sym c.in-Some.ensures) in
    let line = puts-same {r = Ok tt} (its_line from f (omega (arith, low, on.0))) c.in_ok-put_sent.ensures in
    (omega (arith, low, on.0), puts-same {r = Ok tt} (one_met (line_from from) c.loop-flight.number flights f c.are_in_order.ensures.order c.in-Some.ensures) (puts-both c.loop-flight.invariant.1 line))

pub overflow_add-number : goal.overflow_add-number
overflow_add-number g c =
    let on = goes_on c.loop-flight.number c.args.machine.now.sent c.args.machine.now.flights c.in-Some.flight.now c.are_in_order.ensures.numbered (sym c.in-Some.ensures) in
    omega (arith, on.1, c.sent-next.ensures)

pub loop-flight-smaller : goal.loop-flight-smaller
loop-flight-smaller g c =
    let on = goes_on c.loop-flight.number c.args.machine.now.sent c.args.machine.now.flights c.in-Some.flight.now c.are_in_order.ensures.numbered (sym c.in-Some.ensures) in
    omega (arith, on.0, on.1)

pub returns : goal.returns
returns g c = puts-same {r = Ok tt} (all_met (line_from c.args.from) c.loop-flight.number c.args.machine.now.flights c.in_default.ensures) c.loop-flight.invariant.1
