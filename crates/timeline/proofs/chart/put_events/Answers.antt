use Rattle.std.proofs.Common.{◌++◌}
use Rattle.texts.proofs.Putting.{puts-both, puts-cut, puts-same}
use Rattle.schedule.specs.Moments.{Moment}
use Rattle.timeline.specs.Marks.{label_of}
use Rattle.timeline.specs.Events.{slice_event, arrival_event, sent_events, events_behind}
use Rattle.timeline.proofs.Putting.{same_events}
use Rattle.timeline.proofs.chart.put_events.Goals as goal

pub returns-in_err-put_begin : goal.returns-in_err-put_begin
returns-in_err-put_begin g c =
    let m : Moment = record { sent = c.args.sent; step = c.args.step.now; arrival = c.args.arrival.now; entry = c.args.entry.now; after = c.args.machine.now } in
    let lane = c.lane.result in
    let edge = c.edge_at-edge.result in
    let same = same_events g.row.SETS c.args.time lane edge m c.lane.ensures c.edge_at-edge.ensures in
    let slice = slice_event c.args.time lane (label_of m.step m.arrival m.entry) in
    puts-same same (puts-cut (slice ++ (arrival_event c.args.time lane m.arrival ++ (sent_events c.args.time lane m.sent m.after.flights ++ events_behind c.args.time lane edge))) c.in_err-put_begin.was c.put_begin.ensures c.from_residual.ensures.0)

pub returns-in_err-put_slice : goal.returns-in_err-put_slice
returns-in_err-put_slice g c =
    let m : Moment = record { sent = c.args.sent; step = c.args.step.now; arrival = c.args.arrival.now; entry = c.args.entry.now; after = c.args.machine.now } in
    let lane = c.lane.result in
    let edge = c.edge_at-edge.result in
    let same = same_events g.row.SETS c.args.time lane edge m c.lane.ensures c.edge_at-edge.ensures in
    puts-same same (puts-both c.in_ok-put_begin.ensures (puts-cut (arrival_event c.args.time lane m.arrival ++ (sent_events c.args.time lane m.sent m.after.flights ++ events_behind c.args.time lane edge)) c.in_err-put_slice.was c.put_slice.ensures c.from_residual-in_err-put_slice.ensures.0))

pub returns-in_err-put_arrival : goal.returns-in_err-put_arrival
returns-in_err-put_arrival g c =
    let m : Moment = record { sent = c.args.sent; step = c.args.step.now; arrival = c.args.arrival.now; entry = c.args.entry.now; after = c.args.machine.now } in
    let lane = c.lane.result in
    let edge = c.edge_at-edge.result in
    let same = same_events g.row.SETS c.args.time lane edge m c.lane.ensures c.edge_at-edge.ensures in
    puts-same same (puts-both c.in_ok-put_begin.ensures (puts-both c.in_ok-put_slice.ensures
    (puts-cut (sent_events c.args.time lane m.sent m.after.flights ++ events_behind c.args.time lane edge) c.in_err-put_arrival.was c.put_arrival.ensures c.from_residual-in_err-put_arrival.ensures.0)))

pub returns-in_err-put_all_sent : goal.returns-in_err-put_all_sent
returns-in_err-put_all_sent g c =
    let m : Moment = record { sent = c.args.sent; step = c.args.step.now; arrival = c.args.arrival.now; entry = c.args.entry.now; after = c.args.machine.now } in
    let lane = c.lane.result in
    let edge = c.edge_at-edge.result in
    let same = same_events g.row.SETS c.args.time lane edge m c.lane.ensures c.edge_at-edge.ensures in
    puts-same same (puts-both c.in_ok-put_begin.ensures (puts-both c.in_ok-put_slice.ensures (puts-both c.in_ok-put_arrival.ensures
    (puts-cut (events_behind c.args.time lane edge) c.in_err-put_all_sent.was c.put_all_sent.ensures c.from_residual-in_err-put_all_sent.ensures.0))))

pub returns : goal.returns
returns g c =
    let m : Moment = record { sent = c.args.sent; step = c.args.step.now; arrival = c.args.arrival.now; entry = c.args.entry.now; after = c.args.machine.now } in
    let lane = c.lane.result in
    let edge = c.edge_at-edge.result in
    let same = same_events g.row.SETS c.args.time lane edge m c.lane.ensures c.edge_at-edge.ensures in
    puts-same same (puts-both c.in_ok-put_begin.ensures (puts-both c.in_ok-put_slice.ensures (puts-both c.in_ok-put_arrival.ensures (puts-both c.in_ok-put_all_sent.ensures c.put_end.ensures))))
