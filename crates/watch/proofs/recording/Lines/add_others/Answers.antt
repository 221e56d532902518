use Rattle.std.proofs.Common.{ℕ, refl, subst, sym}
use Rattle.machine.specs.States.{geometry}
use Rattle.watch.specs.Rows.{AddsTurns}
use Rattle.watch.proofs.ServedLines.{served_added}
use Rattle.watch.proofs.recording.Lines.add_others.Goals as goal

-- nothing was written before
pub returns-in-Some-clause-turns : goal.returns-in-Some-clause-turns
returns-in-Some-clause-turns g c =
    let G = geometry g.row.SETS g.row.WAYS in
    let v = c.args.machine.now in
    let w = c.serve.new.self in
    let x = c.args.self.now in
    let y = c.serve.new.listener in
    let served = c.in-Some.ensures.served in
    let empty = c.is_empty.ensures.0 c.if-not-is_empty.false in
    subst (λ (n : ℕ). AddsTurns G v c.args.after n w c.args.after x y) (sym c.turns.ensures)
    (served_added x.entries G v w c.in-Some.service served.0 served.1 x y c.args.after refl empty served.2)
