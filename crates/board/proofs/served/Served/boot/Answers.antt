use Rattle.std.proofs.Common.{List, ℕ, ap, length, subst, sym}
use Rattle.machine.specs.States.{geometry}
use Rattle.board.specs.Turns.{IsServed}
use Rattle.board.proofs.WholeTurns.{served_first}
use Rattle.board.proofs.served.Served.boot.Goals as goal

pub invariant_of-result : goal.invariant_of-result
invariant_of-result g c =
    let b = c.in_ok-board.board in
    let first = served_first (geometry g.row.SETS g.row.WAYS) g.J.Journal.tells c.args.code.program.now c.args.harts c.args.size c.args.journal b c.in_ok-board.ensures.ok c.requires.told in
    (λ whole. subst (λ (ts : List ℕ). IsServed (geometry g.row.SETS g.row.WAYS) g.J.Journal.tells b ts) (sym c.new.ensures.turns) first, ap length c.new.ensures.turns, c.requires.lines)
