use Rattle.std.proofs.Common.{length, subst}
use Rattle.machine.specs.Turns.{IsHartsTurn}
use Rattle.machine.specs.States.{State, shown, hart_at}
use Rattle.machine.proofs.Turning.{turn_of_harts}
use Rattle.machine.proofs.machine.Machine.next_turn.Goals as goal

pub returns : goal.returns
returns g c =
    turn_of_harts (shown g.row.SETS c.args.self.now) c.args.self.now.flights c.args.after c.harts_turn.result c.in_default.ensures.none
    (subst (λ (m : State). IsHartsTurn (shown g.row.SETS m).harts (shown g.row.SETS m).setting.count c.args.after c.harts_turn.result) c.self.view_is
    (subst (λ seats. IsHartsTurn (hart_at g.row.SETS seats) (length seats) c.args.after c.harts_turn.result) c.deref.ensures.value c.harts_turn.ensures))
