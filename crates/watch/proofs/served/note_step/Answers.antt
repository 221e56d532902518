use Rattle.std.proofs.Common.{refl}
use Rattle.machine.specs.States.{geometry}
use Rattle.watch.specs.declared.counting.Tally.{Tally}
use Rattle.watch.proofs.AskedTurns.{other_asked}
use Rattle.watch.proofs.served.note_step.Goals as goal

pub returns : goal.returns
returns g c = λ v after before has sent.
    let after_it : Tally = record c.args.tally.now { harts = c.note_asked.new.self; machine = c.note.new.self } in
    other_asked (geometry g.row.SETS g.row.WAYS) v c.args.machine.now after c.args.hart before c.args.tally.now has after_it c.args.sent sent (λ h k. c.note_asked.ensures h k) refl
    c.note.ensures.sums c.note.ensures.most_in_flight c.note.ensures.most_in_use
