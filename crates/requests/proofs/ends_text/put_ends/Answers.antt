use Rattle.texts.proofs.Putting.{puts-both, puts-cut}
use Rattle.requests.specs.EndTexts.{count_text}
use Rattle.requests.proofs.ends_text.put_ends.Goals as goal

pub returns-in_err-put_each : goal.returns-in_err-put_each
returns-in_err-put_each g c = puts-cut (count_text _ c.args.states c.args.is_all) c.in_err-put_each.was c.put_each.ensures c.from_residual.ensures.0

pub returns : goal.returns
returns g c = puts-both c.in_ok-put_each.ensures c.put_count.ensures
