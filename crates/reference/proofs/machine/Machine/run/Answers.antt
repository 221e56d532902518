use Rattle.std.proofs.Common.{◌+◌, [], ◌∷◌, ◌++◌, take, sym, ap, ◌∙◌}
use Rattle.std.proofs.lemmas.List.{take_more}
use Rattle.words.specs.declared.entry.Step.{Step}
use Rattle.reference.specs.Machines.{flat_of}
use Rattle.reference.proofs.Runs.{taken_more, refines_all, unmoved_run}
use Rattle.reference.proofs.machine.Machine.run.Goals as goal

pub loop-made-preserved : goal.loop-made-preserved
loop-made-preserved c =
    let steps = c.args.steps.now in
    let k = take_more steps c.loop-made.made c.index-steps-made.result c.loop-made-test.true in
    taken_more (flat_of c.args.self.now) (flat_of c.loop-made.self) (flat_of c.step_into.new.self) c.args.entries.now.items c.loop-made.entries.items c.step_into.new.entries.items
    steps c.loop-made.made c.index-steps-made.result (take (c.loop-made.made + 1) steps)
    (k ∙ ap (λ (s : Step). take c.loop-made.made steps ++ s ∷ []) (sym c.index-steps-made.is))
    c.loop-made.invariant c.in_default.ensures.ok

pub returns-in-Err-clause-refines : goal.returns-in-Err-clause-refines
returns-in-Err-clause-refines c =
    refines_all c.args.self.now c.step_into.new.self c.args.entries.now.items c.step_into.new.entries.items (take c.loop-made.made c.args.steps.now)
    (unmoved_run (flat_of c.args.self.now) (flat_of c.loop-made.self) (flat_of c.step_into.new.self) c.args.entries.now.items c.loop-made.entries.items c.step_into.new.entries.items
    (take c.loop-made.made c.args.steps.now) c.loop-made.invariant c.in-Err.ensures.machine c.in-Err.ensures.entries)

pub returns-clause-refines : goal.returns-clause-refines
returns-clause-refines c =
    refines_all c.args.self.now c.loop-made.self c.args.entries.now.items c.loop-made.entries.items (take c.loop-made.made c.args.steps.now) c.loop-made.invariant
