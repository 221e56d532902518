use Rattle.machine.specs.States.{geometry}
use Rattle.debugger.proofs.Looked.{answers, deed_refused}
use Rattle.debugger.proofs.session.Session.command.Goals as goal

pub returns-in_default-clause-answers : goal.returns-in_default-clause-answers
returns-in_default-clause-answers g c = answers (geometry g.row.SETS g.row.WAYS) c.args.names.now c.args.self.now c.answer.new.self c.args.command _ _ c.answer.result c.in_default.not-Look c.answer.ensures.carries

pub returns-in_default-clause-refused : goal.returns-in_default-clause-refused
returns-in_default-clause-refused g c = λ fault is. c.answer.ensures.refused fault (deed_refused g.row.SETS c.args.self.now c.args.command fault c.in_default.not-Look is)
