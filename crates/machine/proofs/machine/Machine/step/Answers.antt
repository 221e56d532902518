use Rattle.std.proofs.Common.{Some, Ok, sym, subst}
use Rattle.std.specs.Prelude.{IfOk}
use Rattle.words.specs.declared.entry.Step.{Step}
use Rattle.words.specs.declared.entry.Step.TheVariants.{Core}
use Rattle.machine.specs.Making.{MakesStep}
use Rattle.machine.specs.States.{State, shown, geometry}
use Rattle.machine.proofs.Made.{steps_of, steps_if_ok}
use Rattle.machine.proofs.Runs.{leads_if_ok}
use Rattle.machine.proofs.machine.Machine.step.Goals as goal

-- a plain word that was retired quickly
pub returns-in-Some-clause-made : goal.returns-in-Some-clause-made
returns-in-Some-clause-made g c =
    subst (λ (s : Step). MakesStep (geometry g.row.SETS g.row.WAYS) c.args.self.now s (Some c.in-Some.entry) c.retire_plain.new.self) (sym c.in-Core.is) c.in-Some.ensures.steps

pub returns-in-Some-clause-steps : goal.returns-in-Some-clause-steps
returns-in-Some-clause-steps g c = steps_of (geometry g.row.SETS g.row.WAYS) c.args.self.now c.args.step (Some c.in-Some.entry) c.retire_plain.new.self (returns-in-Some-clause-made g c)

pub returns-in-Some-clause-leads : goal.returns-in-Some-clause-leads
returns-in-Some-clause-leads g c = leads_if_ok (geometry g.row.SETS g.row.WAYS) (shown g.row.SETS c.args.self.now) (shown g.row.SETS c.retire_plain.new.self) c.args.step (Ok (Some c.in-Some.entry))
    (returns-in-Some-clause-steps g c)

-- any other step of a core
pub returns-in-None-clause-made : goal.returns-in-None-clause-made
returns-in-None-clause-made g c =
    subst (λ (s : Step). IfOk c.core.result (λ e. MakesStep (geometry g.row.SETS g.row.WAYS) c.args.self.now s e c.core.new.self)) (sym c.in-Core.is)
    (subst (λ (m : State). IfOk c.core.result (λ e. MakesStep (geometry g.row.SETS g.row.WAYS) m (Core c.in-Core.id) e c.core.new.self)) c.in-None.ensures.none c.core.ensures.steps)

pub returns-in-None-clause-steps : goal.returns-in-None-clause-steps
returns-in-None-clause-steps g c = steps_if_ok (geometry g.row.SETS g.row.WAYS) c.args.self.now c.args.step c.core.new.self c.core.result (returns-in-None-clause-made g c)

pub returns-in-None-clause-leads : goal.returns-in-None-clause-leads
returns-in-None-clause-leads g c = leads_if_ok (geometry g.row.SETS g.row.WAYS) (shown g.row.SETS c.args.self.now) (shown g.row.SETS c.core.new.self) c.args.step c.core.result (returns-in-None-clause-steps g c)

-- a line that is given up
pub returns-in-Evict-clause-made : goal.returns-in-Evict-clause-made
returns-in-Evict-clause-made g c =
    subst (λ (s : Step). IfOk c.evict.result (λ e. MakesStep (geometry g.row.SETS g.row.WAYS) c.args.self.now s e c.evict.new.self)) (sym c.in-Evict.is) c.evict.ensures.steps

pub returns-in-Evict-clause-steps : goal.returns-in-Evict-clause-steps
returns-in-Evict-clause-steps g c = steps_if_ok (geometry g.row.SETS g.row.WAYS) c.args.self.now c.args.step c.evict.new.self c.evict.result (returns-in-Evict-clause-made g c)

pub returns-in-Evict-clause-leads : goal.returns-in-Evict-clause-leads
returns-in-Evict-clause-leads g c = leads_if_ok (geometry g.row.SETS g.row.WAYS) (shown g.row.SETS c.args.self.now) (shown g.row.SETS c.evict.new.self) c.args.step c.evict.result (returns-in-Evict-clause-steps g c)

-- an arrival
pub returns-in-Deliver-clause-made : goal.returns-in-Deliver-clause-made
returns-in-Deliver-clause-made g c =
    subst (λ (s : Step). IfOk c.deliver.result (λ e. MakesStep (geometry g.row.SETS g.row.WAYS) c.args.self.now s e c.deliver.new.self)) (sym c.in-Deliver.is) c.deliver.ensures.steps

pub returns-in-Deliver-clause-steps : goal.returns-in-Deliver-clause-steps
returns-in-Deliver-clause-steps g c = steps_if_ok (geometry g.row.SETS g.row.WAYS) c.args.self.now c.args.step c.deliver.new.self c.deliver.result (returns-in-Deliver-clause-made g c)

pub returns-in-Deliver-clause-leads : goal.returns-in-Deliver-clause-leads
returns-in-Deliver-clause-leads g c = leads_if_ok (geometry g.row.SETS g.row.WAYS) (shown g.row.SETS c.args.self.now) (shown g.row.SETS c.deliver.new.self) c.args.step c.deliver.result (returns-in-Deliver-clause-steps g c)
