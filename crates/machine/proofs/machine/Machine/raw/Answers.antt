use Rattle.std.proofs.Common.{sym, ◌∙◌}
use Rattle.protocol.specs.Values.{in_place}
use Rattle.machine.specs.States.{shown, geometry, setting_of}
use Rattle.network.proofs.OneOrder.{past}
use Rattle.machine.proofs.Answered.{all_below, aligned, number_there, word_there, raw_flat}
use Rattle.machine.proofs.machine.Machine.raw.Goals as goal

pub returns-then-is_readable-clause-value : goal.returns-then-is_readable-clause-value
returns-then-is_readable-clause-value g c = λ keys below.
    word_there (setting_of c.args.self.now) (in_place keys (shown g.row.SETS c.args.self.now)) c.in_place.result c.args.addr c.block.result c.word_in.result
    (sym c.is_readable.ensures ∙ c.if-is_readable.true) c.word_in.ensures c.block.ensures (c.in_place.ensures keys below)

pub returns-then-is_readable-clause-flat : goal.returns-then-is_readable-clause-flat
returns-then-is_readable-clause-flat g c = λ f b quiescent.
    raw_flat (geometry g.row.SETS g.row.WAYS) f (shown g.row.SETS c.args.self.now) (past c.args.self.now.flights) b (all_below c.args.self.now.flights) c.args.addr c.word_in.result
    (aligned (setting_of c.args.self.now) c.args.addr (sym c.is_readable.ensures ∙ c.if-is_readable.true))
    (number_there (setting_of c.args.self.now) (in_place (past c.args.self.now.flights) (shown g.row.SETS c.args.self.now)) c.in_place.result c.args.addr c.block.result c.word_in.result
    (sym c.is_readable.ensures ∙ c.if-is_readable.true) c.word_in.ensures c.block.ensures (c.in_place.ensures (past c.args.self.now.flights) (all_below c.args.self.now.flights)))
    quiescent
