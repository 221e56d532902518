use Rattle.std.proofs.Common.{sym, ap, arith}
use Rattle.std.specs.Option.{option_map}
use Rattle.network.proofs.OneOrder.{from_is}
use Rattle.network.proofs.Walks.{goes_on}
use Rattle.protocol.specs.Messages.{shown as shown_message}
use Rattle.schedule.proofs.Finding.{none_named, not_named}
use Rattle.schedule.proofs.Naming.{only_named}
use Rattle.schedule.proofs.Walking.{over}
use Rattle.schedule.proofs.step.find.Goals as goal

pub returns-then-has_name-clause-some : goal.returns-then-has_name-clause-some
returns-then-has_name-clause-some g c =
    let flight = c.in-Some.flight.now in
    only_named g.row.SETS g.row.WAYS c.args.machine.now c.keeps.ensures flight.number (shown_message flight.message) c.args.name.now
    (ap (λ o. option_map shown_message (option_map (λ f. f.message) o)) (from_is c.loop-flight.number c.args.machine.now.flights flight (sym c.in-Some.ensures)).1) (rw c.if-has_name.true at c.has_name.ensures)

pub overflow_add-number : goal.overflow_add-number
overflow_add-number g c =
    let on = goes_on c.loop-flight.number c.args.machine.now.sent c.args.machine.now.flights c.in-Some.flight.now c.are_in_order.ensures.numbered (sym c.in-Some.ensures) in
    omega (arith, on.1, c.sent-next.ensures)

pub loop-flight-smaller : goal.loop-flight-smaller
loop-flight-smaller g c =
    let on = goes_on c.loop-flight.number c.args.machine.now.sent c.args.machine.now.flights c.in-Some.flight.now c.are_in_order.ensures.numbered (sym c.in-Some.ensures) in
    omega (arith, on.0, on.1)

pub loop-flight-preserved : goal.loop-flight-preserved
loop-flight-preserved g c = not_named g.row.SETS c.args.machine.now c.args.name.now c.loop-flight.number c.loop-flight.invariant c.in-Some.flight.now c.are_in_order.ensures.order (sym c.in-Some.ensures)
    (rw c.if-has_name.false at c.has_name.ensures)

pub returns-clause-none : goal.returns-clause-none
returns-clause-none g c = none_named g.row.SETS c.args.machine.now c.args.name.now c.loop-flight.number c.loop-flight.invariant
    (over c.loop-flight.number c.args.machine.now.flights c.next_from.result c.next_from.ensures c.in_default.not-Some)
