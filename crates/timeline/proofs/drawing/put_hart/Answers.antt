use Rattle.std.proofs.Common.{[], ◌∷◌, sym, codes, decimal}
use Rattle.std.specs.List.{concat}
use Rattle.texts.proofs.Putting.{puts-both, puts-cut}
use Rattle.timeline.proofs.drawing.put_hart.Goals as goal

pub returns-in_err-put_lifeline : goal.returns-in_err-put_lifeline
returns-in_err-put_lifeline g c =
    puts-cut (concat (codes "hart " ∷ decimal c.args.hart ∷ codes "</text></g>\n" ∷ [])) c.in_err-put_lifeline.was c.put_lifeline.ensures c.from_residual.ensures.0

pub returns : goal.returns
returns g c = puts-both c.in_ok-put_lifeline.ensures (rw (sym c.format.ensures.text, sym c.as_bytes.ensures.value) c.put_all.ensures)
