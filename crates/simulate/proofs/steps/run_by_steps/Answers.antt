use Rattle.std.proofs.Common.{arith}
use Rattle.std.proofs.lemmas.Result.{err_from_is_err_and}
use Rattle.machine.specs.States.{geometry}
use Rattle.schedule.specs.Courses.{forgotten}
use Rattle.requests.specs.Outputs.{Sinks}
use Rattle.simulate.proofs.StepRuns.{not_begun, cut_short, ended, readable_then}
use Rattle.simulate.proofs.steps.run_by_steps.Goals as goal

-- the run did not begin
pub returns-in_err-begun : goal.returns-in_err-begun
returns-in_err-begun g c =
    let p = err_from_is_err_and c.from_residual-in_err-begun.result c.from_residual-in_err-begun.ensures.1 in
    let before : Sinks = record { output = g.O.Sink.state c.args.out.now; file = g.T.Sink.state c.args.chart.now.sink } in
    rw (p.1, p.2) (not_begun (geometry g.row.SETS g.row.WAYS) c.args.run.now (forgotten (g.C.Chooser.behind c.args.chooser.now)) c.args.show c.args.file.now c.args.schedule.now before c.in_err-begun.field-0.0 c.in_err-begun.ensures)

-- the steps were not all made and shown
pub returns-in_err-counts : goal.returns-in_err-counts
returns-in_err-counts g c =
    let p = err_from_is_err_and c.from_residual-in_err-counts.result c.from_residual-in_err-counts.ensures.1 in
    let before : Sinks = record { output = g.O.Sink.state c.args.out.now; file = g.T.Sink.state c.args.chart.now.sink } in
    let after : Sinks = record { output = g.O.Sink.state c.play-played.new.out; file = g.T.Sink.state c.play-played.new.chart.sink } in
    rw (p.1, p.2) (cut_short (geometry g.row.SETS g.row.WAYS) c.args.run.now (forgotten (g.C.Chooser.behind c.play-played.new.chooser)) c.args.show c.args.file.now c.args.schedule.now c.in_ok-begun.begun.machine c.play-played.new.machine c.in_ok-begun.begun.addrs.items c.in_ok-begun.begun.choices.items
    c.deref.result.now c.in_ok-begun.ensures c.deref.ensures.value c.deref-2.result.now c.deref-2.ensures.value before after c.in_err-counts.field-0.0 (rw c.in_ok-names.ensures at c.in_err-counts.ensures))

pub put_end-requires : goal.put_end-requires
put_end-requires g c =
    let before : Sinks = record { output = g.O.Sink.state c.args.out.now; file = g.T.Sink.state c.args.chart.now.sink } in
    let middle : Sinks = record { output = g.O.Sink.state c.play-played.new.out; file = g.T.Sink.state c.play-played.new.chart.sink } in (
      omega arith,
      readable_then (geometry g.row.SETS g.row.WAYS) c.args.run.now (g.C.Chooser.behind c.play-played.new.chooser) c.args.show c.args.file.now c.args.schedule.now c.in_ok-begun.begun.machine c.play-played.new.machine c.in_ok-begun.begun.addrs.items c.in_ok-begun.begun.choices.items
          c.deref.result.now c.in_ok-begun.ensures c.deref.ensures.value c.deref-2.result.now c.deref-2.ensures.value c.deref-3.result.now c.deref-3.ensures.value c.in_ok-counts.counts before middle (rw c.in_ok-names.ensures at c.in_ok-counts.ensures),
    )

pub returns : goal.returns
returns g c =
    let before : Sinks = record { output = g.O.Sink.state c.args.out.now; file = g.T.Sink.state c.args.chart.now.sink } in
    let middle : Sinks = record { output = g.O.Sink.state c.play-played.new.out; file = g.T.Sink.state c.play-played.new.chart.sink } in
    ended (geometry g.row.SETS g.row.WAYS) c.args.run.now (g.C.Chooser.behind c.play-played.new.chooser) c.args.show c.args.file.now c.args.schedule.now c.in_ok-begun.begun.machine c.play-played.new.machine c.in_ok-begun.begun.addrs.items c.in_ok-begun.begun.choices.items
    c.deref.result.now c.in_ok-begun.ensures c.deref.ensures.value c.deref-2.result.now c.deref-2.ensures.value c.deref-3.result.now c.deref-3.ensures.value c.in_ok-counts.counts before middle (rw c.in_ok-names.ensures at c.in_ok-counts.ensures)
    (g.O.Sink.state c.put_end.new.out) c.put_end.result c.put_end.ensures
