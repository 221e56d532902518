use Rattle.std.proofs.Common.{List, ℕ, None, arith, sym, subst}
use Rattle.std.proofs.lemmas.Result.{err_from_is_err_and}
use Rattle.machine.specs.States.{geometry, setting_of}
use Rattle.render.specs.Reports.{AllReadable}
use Rattle.simulate.proofs.ThreadedRuns.{come_to, concluded, end_by, few_harts, stopped, unready}
use Rattle.simulate.proofs.threads.run_unkept.Goals as goal

pub returns-in_err-board : goal.returns-in_err-board
returns-in_err-board g c = λ file page holds.
    let p = err_from_is_err_and c.from_residual.result c.from_residual.ensures.1 in
    rw (p.1, p.2) (unready (geometry g.row.SETS g.row.WAYS) c.args.run.now None file (record { output = g.O.Sink.state c.args.out.now; file = page }) c.args.code.program.now holds c.in_err-board.field-0.0 c.in_err-board.ensures)

pub run_board-requires-after_bounds : goal.run_board-requires-after_bounds
run_board-requires-after_bounds g c κs within =
    (omega arith, (omega arith, (c.requires.ways, (c.requires.lines, few_harts c.args.code.program.now.segments c.args.run.now.setup.harts c.args.run.now.setup.memory c.in_ok-board.ensures.boots))))

pub returns-in_err-end : goal.returns-in_err-end
returns-in_err-end g c = λ file page holds.
    let p = err_from_is_err_and c.from_residual-in_err-end.result c.from_residual-in_err-end.ensures.1 in
    rw (p.1, p.2) (stopped (geometry g.row.SETS g.row.WAYS) c.args.run.now None file (record { output = g.O.Sink.state c.args.out.now; file = page }) c.in_err-end.field-0.0 c.in_err-end.ensures)

pub conclude-requires : goal.conclude-requires
conclude-requires g c =
    let choices = c.in_ok-end.ensures.choices in
    let come = come_to (geometry g.row.SETS g.row.WAYS) c.args.run.now c.args.code.program.now choices c.in_ok-end.end.machine c.in_ok-board.field-0.addrs.items c.in_ok-board.ensures
    (end_by (geometry g.row.SETS g.row.WAYS) c.args.code.program.now c.args.run.now.setup.harts c.args.run.now.setup.memory _ c.args.run.now.steps c.from-turns.result c.in_ok-end.end.machine c.from-turns.ensures c.in_ok-end.ensures)
    c.written_choices_are_read.ensures.text c.written_choices_are_read.ensures.spelled in
    (omega arith, subst (λ (l : List ℕ). AllReadable (setting_of c.in_ok-end.end.machine) l) (sym c.deref.ensures.value) come.readable)

pub returns : goal.returns
returns g c = λ file page holds.
    let choices = c.in_ok-end.ensures.choices in
    let come = come_to (geometry g.row.SETS g.row.WAYS) c.args.run.now c.args.code.program.now choices c.in_ok-end.end.machine c.in_ok-board.field-0.addrs.items c.in_ok-board.ensures
    (end_by (geometry g.row.SETS g.row.WAYS) c.args.code.program.now c.args.run.now.setup.harts c.args.run.now.setup.memory _ c.args.run.now.steps c.from-turns.result c.in_ok-end.end.machine c.from-turns.ensures c.in_ok-end.ensures)
    c.written_choices_are_read.ensures.text c.written_choices_are_read.ensures.spelled in
    concluded (geometry g.row.SETS g.row.WAYS) c.args.run.now file c.args.code.program.now holds choices c.in_ok-end.end.machine c.in_ok-board.field-0.addrs.items come c.deref.result.now c.deref.ensures.value page
    (g.O.Sink.state c.args.out.now) (g.O.Sink.state c.conclude.new.sink) c.conclude.result c.conclude.ensures
