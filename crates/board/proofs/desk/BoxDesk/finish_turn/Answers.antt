use Rattle.std.proofs.Common.{box_value, refl}
use Rattle.std.specs.Box.{with_value}
use Rattle.board.proofs.Within.{ends_within}
use Rattle.board.proofs.desk.BoxDesk.finish_turn.Goals as goal

-- src/desk.rt:124:5
pub returns : goal.returns
returns g c =
    ends_within box_value with_value (λ b d. refl) g.D.Desk.settles (g.D.Desk.visits c.args.id) (g.D.Desk.lends_again c.args.id) c.args.is_last c.args.self.now c.args.self.now c.deref_mut.result.now c.args.lease.now
    c.finish_turn.result c.finish_turn.new.self c.finish_turn.new.lease c.deref_mut.ensures.value c.finish_turn.ensures
