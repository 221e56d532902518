use Rattle.std.proofs.Common.{ap}
use Rattle.render.specs.Reports.{output_text, status_text}
use Rattle.texts.proofs.Putting.{puts-both, puts-cut, puts-same}
use Rattle.render.proofs.reporting.put_hart.Goals as goal

pub returns-in_err-put_output : goal.returns-in_err-put_output
returns-in_err-put_output g c = λ f belongs.
    puts-cut (status_text c.args.id (f.hart c.args.id).status) c.in_err-put_output.was (puts-same (ap (output_text c.args.id) (c.output.ensures f belongs)) c.put_output.ensures) c.from_residual.ensures.0

pub returns : goal.returns
returns g c = λ f belongs.
    puts-both (puts-same (ap (output_text c.args.id) (c.output.ensures f belongs)) c.in_ok-put_output.ensures) (puts-same (ap (status_text c.args.id) (c.status_of.ensures f belongs)) c.put_status.ensures)
