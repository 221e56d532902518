use Rattle.std.proofs.Common.{List, ℕ, Some, arith, sym, subst}
use Rattle.std.proofs.lemmas.Result.{err_from_is_err_and}
use Rattle.machine.specs.States.{geometry, setting_of}
use Rattle.render.specs.Reports.{AllReadable}
use Rattle.simulate.proofs.ThreadedRuns.{come_to, concluded_kept, end_known, few_harts, stopped, unready}
use Rattle.simulate.proofs.threads.run_kept.Goals as goal

pub returns-in_err-board : goal.returns-in_err-board
returns-in_err-board g c = λ file holds.
    let p = err_from_is_err_and c.from_residual.result c.from_residual.ensures.1 in
    rw (p.1, p.2) (unready (geometry g.row.SETS g.row.WAYS) c.args.run.now (Some c.args.path) file (record { output = g.O.Sink.state c.args.out.now; file = g.T.Sink.state c.args.page.now }) c.args.code.program.now holds c.in_err-board.field-0.0 c.in_err-board.ensures)

pub run_board-requires-after_bounds : goal.run_board-requires-after_bounds
run_board-requires-after_bounds g c κs within =
    (omega arith, (omega arith, (c.requires.ways, (c.requires.lines, few_harts c.args.code.program.now.segments c.args.run.now.setup.harts c.args.run.now.setup.memory c.in_ok-board.ensures.boots))))

pub returns-in_err-end : goal.returns-in_err-end
returns-in_err-end g c = λ file holds.
    let p = err_from_is_err_and c.from_residual-in_err-end.result c.from_residual-in_err-end.ensures.1 in
    rw (p.1, p.2) (stopped (geometry g.row.SETS g.row.WAYS) c.args.run.now (Some c.args.path) file (record { output = g.O.Sink.state c.args.out.now; file = g.T.Sink.state c.args.page.now }) c.in_err-end.field-0.0 c.in_err-end.ensures)

pub keep_and_conclude-requires : goal.keep_and_conclude-requires
keep_and_conclude-requires g c =
    let come = come_to (geometry g.row.SETS g.row.WAYS) c.args.run.now c.args.code.program.now c.in_ok-end.end.journal.choices c.in_ok-end.end.machine c.in_ok-board.field-0.addrs.items c.in_ok-board.ensures
    (end_known (geometry g.row.SETS g.row.WAYS) c.args.code.program.now c.args.run.now.setup.harts c.args.run.now.setup.memory c.args.run.now.steps c.from-turns.result c.in_ok-end.end.journal.choices c.in_ok-end.end.machine c.from-turns.ensures c.in_ok-end.ensures)
    c.written_choices_are_read.ensures.text c.written_choices_are_read.ensures.spelled in
    (omega arith, subst (λ (l : List ℕ). AllReadable (setting_of c.in_ok-end.end.machine) l) (sym c.deref.ensures.value) come.readable)

pub returns : goal.returns
returns g c = λ file holds.
    let come = come_to (geometry g.row.SETS g.row.WAYS) c.args.run.now c.args.code.program.now c.in_ok-end.end.journal.choices c.in_ok-end.end.machine c.in_ok-board.field-0.addrs.items c.in_ok-board.ensures
    (end_known (geometry g.row.SETS g.row.WAYS) c.args.code.program.now c.args.run.now.setup.harts c.args.run.now.setup.memory c.args.run.now.steps c.from-turns.result c.in_ok-end.end.journal.choices c.in_ok-end.end.machine c.from-turns.ensures c.in_ok-end.ensures)
    c.written_choices_are_read.ensures.text c.written_choices_are_read.ensures.spelled in
    concluded_kept (geometry g.row.SETS g.row.WAYS) c.args.run.now file c.args.code.program.now holds c.in_ok-end.end.journal.choices c.in_ok-end.end.machine c.in_ok-board.field-0.addrs.items come
    c.deref.result.now c.deref.ensures.value c.args.path (g.T.Sink.state c.args.page.now) (g.T.Sink.state c.keep_and_conclude.new.page) (g.O.Sink.state c.args.out.now) (g.O.Sink.state c.keep_and_conclude.new.out)
    c.keep_and_conclude.result c.keep_and_conclude.ensures
