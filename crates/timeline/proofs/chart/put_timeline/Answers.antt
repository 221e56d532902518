use Rattle.std.proofs.Common.{refl, ap}
use Rattle.std.proofs.lemmas.Result.{err_from_is_err_and}
use Rattle.texts.proofs.Putting.{puts-same}
use Rattle.machine.specs.States.{geometry}
use Rattle.schedule.specs.Courses.{course, forgotten}
use Rattle.schedule.proofs.Going.{forget}
use Rattle.timeline.specs.Timelines.{opening}
use Rattle.timeline.proofs.Showing.{cut_opening, well_put, halted, given}
use Rattle.timeline.proofs.chart.put_timeline.Goals as goal

pub returns-in_err-put_or_halt : goal.returns-in_err-put_or_halt
returns-in_err-put_or_halt g c =
    let p = err_from_is_err_and c.from_residual.result c.from_residual.ensures.1 in
    rw (p.1, p.2, c.in_err-put_or_halt.ensures.0)
    (cut_opening (geometry g.row.SETS g.row.WAYS) c.args.choices.now (g.C.Chooser.behind c.args.chooser.now) c.args.steps c.args.machine.now (g.S.Sink.state c.args.chart.now.sink) (g.S.Sink.state c.put_opening.new.sink)
    c.put_opening.result c.requires c.in_err-put_or_halt.ensures.1 (puts-same (ap opening c.harts-harts.ensures.value) c.put_opening.ensures))

pub returns-in_err-run : goal.returns-in_err-run
returns-in_err-run g c =
    let p = err_from_is_err_and c.from_residual-in_err-run.result c.from_residual-in_err-run.ensures.1 in
    let begun = well_put c.put_opening.result c.in_ok-put_or_halt.ensures (puts-same (ap opening c.harts-harts.ensures.value) c.put_opening.ensures) in
    rw (p.1, p.2)
    (halted (geometry g.row.SETS g.row.WAYS) (course c.args.choices.now (forgotten (g.C.Chooser.behind c.run.new.chooser))) c.args.steps c.args.machine.now c.run.new.machine (λ l. g.S.Sink.state l.sink) (λ l. l.time) (record { sink = c.put_opening.new.sink; time = 0 }) c.run.new.log refl (g.S.Sink.state c.args.chart.now.sink) begun c.in_err-run.field-0.0 c.in_err-run.ensures)

pub returns : goal.returns
returns g c =
    let begun = well_put c.put_opening.result c.in_ok-put_or_halt.ensures (puts-same (ap opening c.harts-harts.ensures.value) c.put_opening.ensures) in
    given (geometry g.row.SETS g.row.WAYS) (course c.args.choices.now (g.C.Chooser.behind c.run.new.chooser)) c.args.steps c.args.machine.now c.run.new.machine (λ l. g.S.Sink.state l.sink) (λ l. l.time) (record { sink = c.put_opening.new.sink; time = 0 }) c.run.new.log refl (g.S.Sink.state c.args.chart.now.sink) begun (course c.args.choices.now (forgotten (g.C.Chooser.behind c.run.new.chooser)))
    (λ m ms plays. forget (geometry g.row.SETS g.row.WAYS) c.args.choices.now (g.C.Chooser.behind c.run.new.chooser) m c.args.machine.now ms c.run.new.machine plays) (g.S.Sink.state c.put_all.new.sink)
    c.in_ok-run.ensures c.put_all.result c.put_or_halt-2.result c.put_all.ensures c.put_or_halt-2.ensures
