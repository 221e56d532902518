use Rattle.std.proofs.Common.{take, sym, subst}
use Rattle.machine.specs.Runs.{RunsInto}
use Rattle.machine.specs.States.{shown, geometry}
use Rattle.machine.proofs.Runs.{runs_more, run_leads}
use Rattle.machine.proofs.machine.Machine.run.Goals as goal

pub loop-made-preserved : goal.loop-made-preserved
loop-made-preserved g c =
    runs_more (geometry g.row.SETS g.row.WAYS) (shown g.row.SETS c.args.self.now) (shown g.row.SETS c.loop-made.self) (shown g.row.SETS c.step_into.new.self) c.args.steps.now c.loop-made.made c.index-steps-made.result
    c.args.entries.now.items c.loop-made.entries.items c.step_into.new.entries.items c.loop-made-test.true c.index-steps-made.is c.loop-made.invariant c.in_default.ensures.ok

-- want of memory leaves the machine and the entries as they were
pub returns-in-Err-clause-leads : goal.returns-in-Err-clause-leads
returns-in-Err-clause-leads g c =
    let runs : RunsInto (geometry g.row.SETS g.row.WAYS) (shown g.row.SETS c.args.self.now) c.args.entries.now.items (take c.loop-made.made c.args.steps.now) (shown g.row.SETS c.step_into.new.self) c.step_into.new.entries.items =
    subst (λ m. RunsInto (geometry g.row.SETS g.row.WAYS) (shown g.row.SETS c.args.self.now) c.args.entries.now.items (take c.loop-made.made c.args.steps.now) (shown g.row.SETS m) c.step_into.new.entries.items) (sym c.in-Err.ensures.machine)
    (subst (λ es. RunsInto (geometry g.row.SETS g.row.WAYS) (shown g.row.SETS c.args.self.now) c.args.entries.now.items (take c.loop-made.made c.args.steps.now) (shown g.row.SETS c.loop-made.self) es) (sym c.in-Err.ensures.entries) c.loop-made.invariant) in
    run_leads (geometry g.row.SETS g.row.WAYS) (shown g.row.SETS c.args.self.now) (shown g.row.SETS c.step_into.new.self) c.args.entries.now.items c.step_into.new.entries.items (take c.loop-made.made c.args.steps.now) runs

pub returns-clause-leads : goal.returns-clause-leads
returns-clause-leads g c = run_leads (geometry g.row.SETS g.row.WAYS) (shown g.row.SETS c.args.self.now) (shown g.row.SETS c.loop-made.self) c.args.entries.now.items c.loop-made.entries.items (take c.loop-made.made c.args.steps.now) c.loop-made.invariant
