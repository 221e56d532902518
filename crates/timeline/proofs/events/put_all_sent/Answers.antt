use Rattle.std.proofs.Common.{◌+◌, Ok, sym, arith}
use Rattle.texts.proofs.Putting.{puts-nothing, puts-same, puts-both, puts-cut}
use Rattle.network.proofs.Walks.{text_from, none_met, one_met, all_met, met_and_left, goes_on}
use Rattle.timeline.specs.Events.{sent_event}
use Rattle.timeline.proofs.events.put_all_sent.Goals as goal

pub loop-flight-init : goal.loop-flight-init
loop-flight-init g c = puts-same {r = Ok tt} (none_met (sent_event c.args.place.time c.args.place.lane c.args.sent) c.args.machine.now.flights) (puts-nothing _)

pub returns-in_err-put_sent : goal.returns-in_err-put_sent
returns-in_err-put_sent g c =
    let text = sent_event c.args.place.time c.args.place.lane c.args.sent in
    let flights = c.args.machine.now.flights in
    let f = c.in-Some.flight.now in
    puts-same (met_and_left text c.loop-flight.number flights f c.are_in_order.ensures.order c.in-Some.ensures)
    (puts-cut (text_from text (f.number + 1) flights) c.in_err-put_sent.was (puts-both c.loop-flight.invariant c.put_sent.ensures) c.from_residual.ensures.0)

pub loop-flight-preserved : goal.loop-flight-preserved
loop-flight-preserved g c =
    let text = sent_event c.args.place.time c.args.place.lane c.args.sent in
    puts-same {r = Ok tt} (one_met text c.loop-flight.number c.args.machine.now.flights c.in-Some.flight.now c.are_in_order.ensures.order c.in-Some.ensures)
    (puts-both c.loop-flight.invariant c.in_ok-put_sent.ensures)

pub overflow_add-number : goal.overflow_add-number
overflow_add-number g c =
    let on = goes_on c.loop-flight.number c.args.machine.now.sent c.args.machine.now.flights c.in-Some.flight.now c.are_in_order.ensures.numbered (sym c.in-Some.ensures) in
    omega (arith, on.1, c.sent-next.ensures)

pub loop-flight-smaller : goal.loop-flight-smaller
loop-flight-smaller g c =
    let on = goes_on c.loop-flight.number c.args.machine.now.sent c.args.machine.now.flights c.in-Some.flight.now c.are_in_order.ensures.numbered (sym c.in-Some.ensures) in
    omega (arith, on.0, on.1)

pub returns : goal.returns
returns g c =
    let text = sent_event c.args.place.time c.args.place.lane c.args.sent in
    puts-same {r = Ok tt} (all_met text c.loop-flight.number c.args.machine.now.flights c.in_default.ensures) c.loop-flight.invariant
