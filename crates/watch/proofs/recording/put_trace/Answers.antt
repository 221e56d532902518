use Rattle.machine.specs.States.{geometry}
use Rattle.schedule.specs.Courses.{course, forgotten}
use Rattle.watch.proofs.Tracing.{told}
use Rattle.watch.proofs.recording.put_trace.Goals as goal

pub returns : goal.returns
returns g c =
    told c.args.names.now g.S.Sink.state (geometry g.row.SETS g.row.WAYS) (course c.args.choices.now (g.C.Chooser.behind c.run.new.chooser)) (course c.args.choices.now (forgotten (g.C.Chooser.behind c.run.new.chooser))) c.args.steps c.args.machine.now c.run.new.machine c.args.sink.now c.run.new.log c.run.result c.run.ensures
