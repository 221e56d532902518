use Rattle.std.proofs.Common.{sym, ◌∙◌}
use Rattle.protocol.specs.Values.{committed, peek}
use Rattle.machine.specs.States.{shown, geometry, setting_of}
use Rattle.network.proofs.OneOrder.{past}
use Rattle.machine.proofs.Answered.{all_below, word_there, no_word, peek_flat}
use Rattle.machine.proofs.machine.Machine.peek.Goals as goal

pub returns-then-is_readable-clause-value : goal.returns-then-is_readable-clause-value
returns-then-is_readable-clause-value g c = λ keys below.
    word_there (setting_of c.args.self.now) (committed keys (shown g.row.SETS c.args.self.now)) c.committed.result c.args.addr c.block.result c.word_in.result
    (sym c.is_readable.ensures ∙ c.if-is_readable.true) c.word_in.ensures c.block.ensures (c.committed.ensures keys below)

pub returns-then-is_readable-clause-flat : goal.returns-then-is_readable-clause-flat
returns-then-is_readable-clause-flat g c = λ f b.
    returns-then-is_readable-clause-value g c (past c.args.self.now.flights) (all_below c.args.self.now.flights)
    ∙ peek_flat (geometry g.row.SETS g.row.WAYS) f (shown g.row.SETS c.args.self.now) (past c.args.self.now.flights) b (all_below c.args.self.now.flights) c.args.addr

pub returns-else-is_readable-clause-flat : goal.returns-else-is_readable-clause-flat
returns-else-is_readable-clause-flat g c = λ f b.
    no_word (setting_of c.args.self.now) (peek (past c.args.self.now.flights) (shown g.row.SETS c.args.self.now)) c.args.addr (sym c.is_readable.ensures ∙ c.if-is_readable.false)
    ∙ peek_flat (geometry g.row.SETS g.row.WAYS) f (shown g.row.SETS c.args.self.now) (past c.args.self.now.flights) b (all_below c.args.self.now.flights) c.args.addr
