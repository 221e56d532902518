use Rattle.reference.specs.Machines.{flat_of}
use Rattle.flat.specs.Reads.{NoneWrote}
use Rattle.reference.proofs.machine.Machine.writer.Given as goal

abbrev pub invariant-loop-i : goal.invariant-loop-i
invariant-loop-i l = NoneWrote (flat_of l.self) l.block l.i
