use Rattle.std.proofs.Common.{◌+◌, Ok, refl, sym, arith}
use Rattle.std.specs.List.{flat_map}
use Rattle.texts.proofs.Putting.{puts-nothing, puts-same, puts-both, puts-cut}
use Rattle.network.proofs.Walks.{text_from, none_met, one_met, all_met, met_and_left, goes_on}
use Rattle.debugger.specs.Looks.{flight_line}
use Rattle.debugger.proofs.Held.{line_is}
use Rattle.debugger.proofs.commands.flights.put_messages.Goals as goal

pub loop-flight-init : goal.loop-flight-init
loop-flight-init g c = puts-same {r = Ok tt} (none_met (flight_line g.row.SETS c.args.machine.now) c.args.machine.now.flights) (puts-nothing _)

pub returns-in_err-put_message : goal.returns-in_err-put_message
returns-in_err-put_message g c =
    let m = c.args.machine.now in
    let text = flight_line g.row.SETS m in
    let f = c.in-Some.flight.now in
    let line = puts-same (line_is g.row.SETS m c.loop-flight.number f c.is_held.result c.in-Some.ensures c.is_held.ensures) c.put_message.ensures in
    record {
      text = flat_map text m.flights;
      is = refl;
      puts = puts-same (met_and_left text c.loop-flight.number m.flights f c.are_in_order.ensures.order c.in-Some.ensures)
          (puts-cut (text_from text (f.number + 1) m.flights) c.in_err-put_message.was (puts-both c.loop-flight.invariant line) c.from_residual.ensures.0);
    }

pub loop-flight-preserved : goal.loop-flight-preserved
loop-flight-preserved g c =
    let m = c.args.machine.now in
    let f = c.in-Some.flight.now in
    let line = puts-same {r = Ok tt} (line_is g.row.SETS m c.loop-flight.number f c.is_held.result c.in-Some.ensures c.is_held.ensures) c.in_ok-put_message.ensures in
    puts-same {r = Ok tt} (one_met (flight_line g.row.SETS m) c.loop-flight.number m.flights f c.are_in_order.ensures.order c.in-Some.ensures) (puts-both c.loop-flight.invariant line)

pub overflow_add-number : goal.overflow_add-number
overflow_add-number g c =
    let on = goes_on c.loop-flight.number c.args.machine.now.sent c.args.machine.now.flights c.in-Some.flight.now c.are_in_order.ensures.numbered (sym c.in-Some.ensures) in
    omega (arith, on.1, c.sent-next.ensures)

pub loop-flight-smaller : goal.loop-flight-smaller
loop-flight-smaller g c =
    let on = goes_on c.loop-flight.number c.args.machine.now.sent c.args.machine.now.flights c.in-Some.flight.now c.are_in_order.ensures.numbered (sym c.in-Some.ensures) in
    omega (arith, on.0, on.1)

pub returns : goal.returns
returns g c =
    let m = c.args.machine.now in
    let text = flight_line g.row.SETS m in
    record { text = flat_map text m.flights; is = refl; puts = puts-same {r = Ok tt} (all_met text c.loop-flight.number m.flights c.in_default.ensures) c.loop-flight.invariant }
