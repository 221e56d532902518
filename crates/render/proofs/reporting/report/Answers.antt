use Rattle.render.specs.Reports.{words_text}
use Rattle.texts.proofs.Putting.{puts-both, puts-cut}
use Rattle.render.proofs.reporting.report.Goals as goal

pub returns-in_err-put_harts : goal.returns-in_err-put_harts
returns-in_err-put_harts g c = λ f belongs. puts-cut (words_text f c.args.words.now) c.in_err-put_harts.was (c.put_harts.ensures f belongs) c.from_residual.ensures.0

pub returns : goal.returns
returns g c = λ f belongs. puts-both (c.in_ok-put_harts.ensures f belongs) (c.put_words.ensures f belongs)
