use Rattle.machine.specs.States.{geometry}
use Rattle.board.proofs.Courses.{chosen_made}
use Rattle.board.proofs.journal.unkept.UnkeptJournal.make.Goals as goal

pub returns-clause-made : goal.returns-clause-made
returns-clause-made g c =
    chosen_made (geometry g.row.SETS g.row.WAYS) c.args.machine.now c.take_step.new.self c.args.chosen.now.step c.args.chosen.now.choice c.take_step.result c.take_step.ensures.steps
