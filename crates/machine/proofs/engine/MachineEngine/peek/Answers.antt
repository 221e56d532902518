use Rattle.std.proofs.Common.{ap, ◌∙◌}
use Rattle.std.specs.Prelude.{is_some}
use Rattle.protocol.specs.Values.{peek}
use Rattle.machine.specs.States.{setting_of, shown}
use Rattle.network.proofs.OneOrder.{past}
use Rattle.machine.proofs.Answered.{all_below, some_word}
use Rattle.machine.proofs.engine.MachineEngine.peek.Goals as goal

pub returns-clause-readable : goal.returns-clause-readable
returns-clause-readable g c =
    ap is_some (c.peek.ensures.value (past c.args.self.now.flights) (all_below c.args.self.now.flights))
    ∙ some_word (setting_of c.args.self.now) (peek (past c.args.self.now.flights) (shown g.row.SETS c.args.self.now)) c.args.addr
