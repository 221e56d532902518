use Rattle.std.proofs.Common.{◌<◌, ◌≤◌, ◌/◌, length, arith, refl, sym, ◌∙◌}
use Rattle.machine.specs.States.{shown, geometry}
use Rattle.network.proofs.OneOrder.{past}
use Rattle.machine.proofs.Answered.{all_below, seen_logged, seen_else, seen_none, view_flat}
use Rattle.machine.proofs.machine.Machine.view.Goals as goal

pub returns-then-index-harts-clause-flat : goal.returns-then-index-harts-clause-flat
returns-then-index-harts-clause-flat g c = λ f b quiescent.
    let out : length c.args.self.now.seats ≤ c.args.id = omega (arith, c.index.ensures.value, c.harts.ensures.value, c.if-index-harts.true) in
    seen_none (shown g.row.SETS c.args.self.now) (past c.args.self.now.flights) c.args.id c.args.addr (c.args.addr / 32) refl out
    ∙ view_flat (geometry g.row.SETS g.row.WAYS) f (shown g.row.SETS c.args.self.now) (past c.args.self.now.flights) b (all_below c.args.self.now.flights) c.args.id c.args.addr quiescent

pub returns-then-is_logged-clause-flat : goal.returns-then-is_logged-clause-flat
returns-then-is_logged-clause-flat g c = λ f b quiescent.
    let hart : c.args.id < length c.args.self.now.seats = omega (arith, c.index.ensures.value, c.harts.ensures.value, c.if-index-harts.false) in
    c.raw.ensures.value (past c.args.self.now.flights) (all_below c.args.self.now.flights)
    ∙ seen_logged (shown g.row.SETS c.args.self.now) (past c.args.self.now.flights) c.args.id c.args.addr c.block.result c.block.ensures hart (sym c.is_logged.ensures ∙ c.if-is_logged.true)
    ∙ view_flat (geometry g.row.SETS g.row.WAYS) f (shown g.row.SETS c.args.self.now) (past c.args.self.now.flights) b (all_below c.args.self.now.flights) c.args.id c.args.addr quiescent

pub returns-else-is_logged-clause-flat : goal.returns-else-is_logged-clause-flat
returns-else-is_logged-clause-flat g c = λ f b quiescent.
    let hart : c.args.id < length c.args.self.now.seats = omega (arith, c.index.ensures.value, c.harts.ensures.value, c.if-index-harts.false) in
    c.peek.ensures.value (past c.args.self.now.flights) (all_below c.args.self.now.flights)
    ∙ seen_else (shown g.row.SETS c.args.self.now) (past c.args.self.now.flights) c.args.id c.args.addr c.block.result c.block.ensures hart (sym c.is_logged.ensures ∙ c.if-is_logged.false)
    ∙ view_flat (geometry g.row.SETS g.row.WAYS) f (shown g.row.SETS c.args.self.now) (past c.args.self.now.flights) b (all_below c.args.self.now.flights) c.args.id c.args.addr quiescent
