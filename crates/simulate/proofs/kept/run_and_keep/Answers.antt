use Rattle.std.proofs.Common.{Some, None, inl, subst}
use Rattle.std.proofs.lemmas.Result.{err_from_is_err_and}
use Rattle.command_line.specs.declared.request.Show.{Show}
use Rattle.machine.specs.States.{geometry}
use Rattle.schedule.specs.Courses.{Chance}
use Rattle.simulate.specs.Given.{IsGiven, IsNotGiven}
use Rattle.requests.specs.Outputs.{Sinks}
use Rattle.simulate.proofs.KeptRuns.{kept, unkept}
use Rattle.simulate.proofs.StepRuns.{not_begun}
use Rattle.command_line.specs.Runs.{shown}
use Rattle.simulate.proofs.kept.run_and_keep.Goals as goal

-- the run did not begin
pub returns-in_err-choices : goal.returns-in_err-choices
returns-in_err-choices g c =
    let before : Sinks = record { output = g.O.Sink.state c.args.out.now; file = g.T.Sink.state c.args.chart.now.sink } in
    let p = err_from_is_err_and c.from_residual.result c.from_residual.ensures.1 in
    rw (p.1, p.2) (inl (not_begun (geometry g.row.SETS g.row.WAYS) c.args.run.now (Chance None) (shown c.args.print) c.args.file.now c.args.schedule.now before c.in_err-choices.field-0.0 c.in_err-choices.ensures))

pub returns-in_err-status : goal.returns-in_err-status
returns-in_err-status g c =
    let before : Sinks = record { output = g.O.Sink.state c.args.out.now; file = g.T.Sink.state c.args.chart.now.sink } in
    let after : Sinks = record { output = g.O.Sink.state c.run_by_steps.new.out; file = g.T.Sink.state c.run_by_steps.new.chart.sink } in
    let p = err_from_is_err_and c.from_residual-in_err-status.result c.from_residual-in_err-status.ensures.1 in
    rw (p.1, p.2) (inl (subst (λ (s : Show). IsNotGiven (geometry g.row.SETS g.row.WAYS) c.args.run.now (Chance None) s c.args.file.now c.args.schedule.now before after c.in_err-status.field-0.0) c.show_of.ensures c.in_err-status.ensures))

pub returns-in_err-keep : goal.returns-in_err-keep
returns-in_err-keep g c =
    let before : Sinks = record { output = g.O.Sink.state c.args.out.now; file = g.T.Sink.state c.args.chart.now.sink } in
    let middle : Sinks = record { output = g.O.Sink.state c.run_by_steps.new.out; file = g.T.Sink.state c.run_by_steps.new.chart.sink } in
    let p = err_from_is_err_and c.from_residual-in_err-keep.result c.from_residual-in_err-keep.ensures.1 in
    let given = subst (λ (s : Show). IsGiven (geometry g.row.SETS g.row.WAYS) c.args.run.now (Chance (Some c.run_by_steps.new.chooser)) s c.args.file.now c.args.schedule.now before middle c.in_ok-status.status) c.show_of.ensures c.in_ok-status.ensures in
    let part = rw (c.deref.ensures.value, c.history.ensures) at c.in_err-keep.ensures in
    rw (p.1, p.2) (unkept (geometry g.row.SETS g.row.WAYS) c.args.run.now c.args.print c.args.path c.args.file.now c.args.schedule.now c.run_by_steps.new.chooser c.in_ok-choices.choices.items c.in_ok-choices.ensures before middle
    c.in_ok-status.status given (g.T.Sink.state c.keep.new.page) c.in_err-keep.field-0.0 part.0 part.1)

pub returns : goal.returns
returns g c =
    let before : Sinks = record { output = g.O.Sink.state c.args.out.now; file = g.T.Sink.state c.args.chart.now.sink } in
    let middle : Sinks = record { output = g.O.Sink.state c.run_by_steps.new.out; file = g.T.Sink.state c.run_by_steps.new.chart.sink } in
    let given = subst (λ (s : Show). IsGiven (geometry g.row.SETS g.row.WAYS) c.args.run.now (Chance (Some c.run_by_steps.new.chooser)) s c.args.file.now c.args.schedule.now before middle c.in_ok-status.status) c.show_of.ensures c.in_ok-status.ensures in
    kept (geometry g.row.SETS g.row.WAYS) c.args.run.now c.args.print c.args.path c.args.file.now c.args.schedule.now c.run_by_steps.new.chooser c.in_ok-choices.choices.items c.in_ok-choices.ensures before middle
    c.in_ok-status.status given (g.T.Sink.state c.keep.new.page) (rw (c.deref.ensures.value, c.history.ensures) at c.in_ok-keep.ensures)
