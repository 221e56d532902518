use Rattle.std.proofs.Common.{◌+◌, Ok, ap, ◌∙◌, sym, arith}
use Rattle.std.specs.List.{flat_map}
use Rattle.texts.proofs.Putting.{puts-nothing, puts-same, puts-both, puts-cut}
use Rattle.network.proofs.Walks.{text_from, none_met, one_met, all_met, met_and_left, goes_on}
use Rattle.pages.specs.Flights.{flight_item, first_told}
use Rattle.pages.proofs.flights.put_flights.Goals as goal

pub loop-flight-init : goal.loop-flight-init
loop-flight-init g c = puts-same {r = Ok tt} (none_met (flight_item c.first_told-from.result) c.args.machine.now.flights) (puts-nothing _)

pub returns-in_err-put_flight : goal.returns-in_err-put_flight
returns-in_err-put_flight g c =
    let text = flight_item c.first_told-from.result in
    let flights = c.args.machine.now.flights in
    let f = c.in-Some.flight.now in
    puts-same (met_and_left text c.loop-flight.number flights f c.are_in_order.ensures.order c.in-Some.ensures ∙ ap (λ n. flat_map (flight_item n) flights) (c.first_told-from.ensures ∙ ap (first_told c.args.sent) c.sent.ensures))
    (puts-cut (text_from text (f.number + 1) flights) c.in_err-put_flight.was (puts-both c.loop-flight.invariant c.put_flight.ensures) c.from_residual.ensures.0)

pub loop-flight-preserved : goal.loop-flight-preserved
loop-flight-preserved g c =
    let text = flight_item c.first_told-from.result in
    puts-same {r = Ok tt} (one_met text c.loop-flight.number c.args.machine.now.flights c.in-Some.flight.now c.are_in_order.ensures.order c.in-Some.ensures)
    (puts-both c.loop-flight.invariant c.in_ok-put_flight.ensures)

pub overflow_add-number : goal.overflow_add-number
overflow_add-number g c =
    let on = goes_on c.loop-flight.number c.args.machine.now.sent c.args.machine.now.flights c.in-Some.flight.now c.are_in_order.ensures.numbered (sym c.in-Some.ensures) in
    omega (arith, on.1, c.sent.ensures)

pub loop-flight-smaller : goal.loop-flight-smaller
loop-flight-smaller g c =
    let on = goes_on c.loop-flight.number c.args.machine.now.sent c.args.machine.now.flights c.in-Some.flight.now c.are_in_order.ensures.numbered (sym c.in-Some.ensures) in
    omega (arith, on.0, on.1)

pub returns : goal.returns
returns g c =
    let flights = c.args.machine.now.flights in
    puts-same {r = Ok tt}
    (all_met (flight_item c.first_told-from.result) c.loop-flight.number flights c.in_default.ensures ∙ ap (λ n. flat_map (flight_item n) flights) (c.first_told-from.ensures ∙ ap (first_told c.args.sent) c.sent.ensures))
    c.loop-flight.invariant
