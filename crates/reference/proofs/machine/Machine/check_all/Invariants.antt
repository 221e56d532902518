use Rattle.std.proofs.Common.{take}
use Rattle.flat.specs.Steps.{IsRun}
use Rattle.reference.specs.Machines.{flat_of}
use Rattle.reference.proofs.machine.Machine.check_all.Given as goal

abbrev pub invariant-loop-accepted : goal.invariant-loop-accepted
invariant-loop-accepted l = IsRun (flat_of l.fn.self) (take l.accepted l.entries) (flat_of l.self)
