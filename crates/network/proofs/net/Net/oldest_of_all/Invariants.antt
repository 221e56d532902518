use Rattle.std.proofs.Common.{true, false}
use Rattle.std.specs.Fn.{FnReturnsAt}
use Rattle.network.proofs.Best.{IsBest}
use Rattle.network.proofs.net.Net.oldest_of_all.Given as goal

-- the best of the keys so far
abbrev pub invariant-loop-key : goal.invariant-loop-key
invariant-loop-key g l =
    let answers = FnReturnsAt g.F.Fn l.passes in
    IsBest (λ f. answers f.message true) (λ f. answers f.message false) l.self-inside.flights.slots l.key l.best
