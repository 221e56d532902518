use Rattle.machine.specs.States.{geometry}
use Rattle.board.proofs.Courses.{kept_end}
use Rattle.board.proofs.board.Board.finish.Goals as goal

pub returns-clause-end : goal.returns-clause-end
returns-clause-end g c =
    let b = c.self.inside in
    kept_end (geometry g.row.SETS g.row.WAYS) b.code.program.now b.harts b.size (g.J.Journal.tells b.journal) b.machine c.self.invariant.2 c.self.invariant.0
