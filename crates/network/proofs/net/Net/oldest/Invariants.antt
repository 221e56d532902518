use Rattle.std.specs.Fn.{FnReturnsAt}
use Rattle.network.proofs.Known.{NoneBelow}
use Rattle.network.proofs.net.Net.oldest.Given as goal

-- no message with a number so far passes
abbrev pub invariant-loop-number : goal.invariant-loop-number
invariant-loop-number g l = NoneBelow (FnReturnsAt g.F.Fn l.passes) l.self-inside.flights.slots l.number
