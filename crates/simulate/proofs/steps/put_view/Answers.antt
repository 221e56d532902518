use Rattle.machine.specs.States.{geometry}
use Rattle.schedule.specs.Courses.{course, forgotten}
use Rattle.schedule.proofs.Going.{forget}
use Rattle.simulate.proofs.ShownRuns.{unflushed}
use Rattle.simulate.proofs.steps.put_view.Goals as goal

-- all was put, and could not be written out
pub returns-in-Err-clause-viewed : goal.returns-in-Err-clause-viewed
returns-in-Err-clause-viewed g c =
    unflushed c.args.names.now c.args.view (geometry g.row.SETS g.row.WAYS) c.args.words.now (course c.args.choices.now (g.C.Chooser.behind c.put_form.new.chooser)) c.args.steps c.args.machine.now c.put_form.new.machine (g.T.Sink.state c.args.chart.now.sink) (g.T.Sink.state c.put_form.new.chart.sink) (g.T.Sink.state c.flush.new.self)
    (course c.args.choices.now (forgotten (g.C.Chooser.behind c.put_form.new.chooser))) c.in-Err.field-0 c.args.path
    (λ ms plays. forget (geometry g.row.SETS g.row.WAYS) c.args.choices.now (g.C.Chooser.behind c.put_form.new.chooser) c.args.steps c.args.machine.now ms c.put_form.new.machine plays) c.in-Ok.ensures (record { whole = tt; clean = tt; part = c.in-Err.ensures.puts.part; fault = c.in-Err.ensures.puts.fault })
