use Rattle.std.proofs.lemmas.Result.{err_from_is_err_and}
use Rattle.machine.specs.States.{geometry}
use Rattle.simulate.proofs.ThreadedRuns.{no_program}
use Rattle.simulate.proofs.threads.run_in_threads.Goals as goal

pub returns-in_err-decoded : goal.returns-in_err-decoded
returns-in_err-decoded g c =
    let p = err_from_is_err_and c.from_residual.result c.from_residual.ensures.1 in
    rw (p.1, p.2) (no_program (geometry g.row.SETS g.row.WAYS) c.args.run.now c.args.history c.args.file.now
    (record { output = g.O.Sink.state c.args.out.now; file = g.T.Sink.state c.args.page.now }) c.in_err-decoded.field-0.0 c.in_err-decoded.ensures)
