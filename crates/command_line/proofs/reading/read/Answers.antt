use Rattle.std.proofs.Common.{inl, inr}
use Rattle.std.proofs.lemmas.Result.{err_from_is_err_and}
use Rattle.command_line.proofs.reading.read.Goals as goal

pub returns-in_err-run-in-run : goal.returns-in_err-run-in-run
returns-in_err-run-in-run c =
    let p = err_from_is_err_and c.from_residual-in_err-run-in-run.result c.from_residual-in_err-run-in-run.ensures.1 in
    rw (p.1, p.2) (inl (c.in-run.is, inr (c.in_ok-read_options-in-run.field-0, c.in_ok-read_options-in-run.ensures, c.in_err-run-in-run.ensures)))

pub returns-in_ok-run-in-run : goal.returns-in_ok-run-in-run
returns-in_ok-run-in-run c =
    (c.in-run.is, (c.in_ok-read_options-in-run.field-0, c.in_ok-read_options-in-run.ensures, c.in_ok-run-in-run.ensures))
