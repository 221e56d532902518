use Rattle.reference.specs.Machines.{flat_of}
use Rattle.flat.specs.Reads.{NoneRuns}
use Rattle.reference.proofs.machine.Machine.lowest_running.Given as goal

abbrev pub invariant-loop-i : goal.invariant-loop-i
invariant-loop-i l = NoneRuns (flat_of l.self) l.from l.i
