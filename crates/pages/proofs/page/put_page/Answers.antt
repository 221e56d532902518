use Rattle.std.proofs.Common.{[], ◌++◌, ◌∙◌, ap}
use Rattle.std.proofs.lemmas.List.{append-nil}
use Rattle.std.proofs.lemmas.Result.{err_from_is_err_and}
use Rattle.texts.proofs.Putting.{puts-same}
use Rattle.machine.specs.States.{geometry}
use Rattle.schedule.specs.Courses.{course, forgotten}
use Rattle.schedule.proofs.Going.{forget}
use Rattle.pages.specs.Form.{tail}
use Rattle.pages.proofs.Telling.{cut_opening, well_put, halted, given}
use Rattle.pages.proofs.page.put_page.Goals as goal

pub returns-in_err-put_or_halt : goal.returns-in_err-put_or_halt
returns-in_err-put_or_halt g c =
    let p = err_from_is_err_and c.from_residual.result c.from_residual.ensures.1 in
    let at = geometry g.row.SETS g.row.WAYS in
    rw (p.1, p.2, c.in_err-put_or_halt.ensures.0)
    (cut_opening c.args.names.now at c.args.words.now c.args.choices.now (g.C.Chooser.behind c.args.chooser.now) c.args.steps c.args.machine.now (g.S.Sink.state c.args.sink.now) (g.S.Sink.state c.put_opening.new.sink)
    c.put_opening.result c.requires c.in_err-put_or_halt.ensures.1 c.put_opening.ensures)

pub returns-in_err-run : goal.returns-in_err-run
returns-in_err-run g c =
    let p = err_from_is_err_and c.from_residual-in_err-run.result c.from_residual-in_err-run.ensures.1 in
    let at = geometry g.row.SETS g.row.WAYS in
    let begun = well_put c.put_opening.result c.in_ok-put_or_halt.ensures c.put_opening.ensures in
    rw (p.1, p.2)
    (halted g.S.Sink.state c.args.names.now at c.args.words.now (course c.args.choices.now (forgotten (g.C.Chooser.behind c.run.new.chooser))) c.args.steps c.args.machine.now c.run.new.machine c.put_opening.new.sink c.run.new.log (g.S.Sink.state c.args.sink.now) begun
    c.in_err-run.field-0.0 c.in_err-run.ensures)

pub returns : goal.returns
returns g c =
    let at = geometry g.row.SETS g.row.WAYS in
    let begun = well_put c.put_opening.result c.in_ok-put_or_halt.ensures c.put_opening.ensures in
    given g.S.Sink.state c.args.names.now at c.args.words.now (course c.args.choices.now (g.C.Chooser.behind c.run.new.chooser)) c.args.steps c.args.machine.now c.run.new.machine c.put_opening.new.sink c.run.new.log (g.S.Sink.state c.args.sink.now) begun
    (course c.args.choices.now (forgotten (g.C.Chooser.behind c.run.new.chooser)))
    (λ m ms plays. forget at c.args.choices.now (g.C.Chooser.behind c.run.new.chooser) m c.args.machine.now ms c.run.new.machine plays) (g.S.Sink.state c.put_all.new.sink)
    c.in_ok-run.ensures c.put_all.result c.put_or_halt-2.result (puts-same (ap (λ t. t ++ []) (c.as_bytes.ensures.value ∙ c.tail.ensures) ∙ append-nil tail) c.put_all.ensures) c.put_or_halt-2.ensures
