use Rattle.machine.specs.States.{geometry}
use Rattle.board.specs.Visits.{IsVisitOf}
use Rattle.board.proofs.board.Board.visit.Given as goal

abbrev pub invariant-loop-made : goal.invariant-loop-made
invariant-loop-made g l = IsVisitOf (geometry g.row.SETS g.row.WAYS) g.J.Journal.tells l.id l.made l.fn.self l.self
