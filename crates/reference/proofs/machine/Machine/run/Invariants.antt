use Rattle.std.proofs.Common.{take}
use Rattle.reference.specs.Machines.{flat_of, RunsTo}
use Rattle.reference.proofs.machine.Machine.run.Given as goal

abbrev pub invariant-loop-made : goal.invariant-loop-made
invariant-loop-made l = RunsTo (flat_of l.fn.self) l.fn.entries.items (take l.made l.steps) (flat_of l.self) l.entries.items
