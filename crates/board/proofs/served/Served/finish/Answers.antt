use Rattle.std.proofs.Common.{subst, sym}
use Rattle.machine.specs.States.{geometry}
use Rattle.board.specs.Turns.{Counted, IsDone}
use Rattle.board.proofs.WholeTurns.{served_end}
use Rattle.board.proofs.served.Served.finish.Goals as goal

pub returns-clause-end : goal.returns-clause-end
returns-clause-end g c = λ most done.
    let b = c.self.inside.board in
    let here = subst (λ (s : Counted g.row.J.Denot). IsDone most s) (sym c.self.view_is) done in
    rw (c.finish.ensures.program, c.finish.ensures.harts, c.finish.ensures.size, c.finish.ensures.journal, c.finish.ensures.machine)
    (served_end (geometry g.row.SETS g.row.WAYS) g.J.Journal.tells most b c.self.inside.tally.turns c.self.invariant.1 (c.self.invariant.0 here.0) here.1)
