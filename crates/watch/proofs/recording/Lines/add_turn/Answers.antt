use Rattle.std.proofs.Common.{ℕ, subst, sym}
use Rattle.machine.specs.States.{geometry}
use Rattle.watch.specs.Rows.{AddsTurns}
use Rattle.watch.proofs.RowLines.{turn_added}
use Rattle.watch.proofs.recording.Lines.add_turn.Goals as goal

pub returns-clause-turns : goal.returns-clause-turns
returns-clause-turns g c =
    let G = geometry g.row.SETS g.row.WAYS in
    let v = c.args.machine.now in
    let w = c.step.new.self in
    let x = c.args.self.now in
    let y = c.hear.new.self in
    subst (λ (h : ℕ). AddsTurns G v c.args.after 1 w h x y) (sym c.hart_after-hart.ensures)
    (turn_added G v w c.args.after c.in-Some.step c.in-Ok.entry x y c.in-Some.ensures c.in-Ok.ensures.made c.hear.ensures c.requires.room)
