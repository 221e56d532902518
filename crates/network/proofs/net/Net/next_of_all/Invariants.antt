use Rattle.network.proofs.Best.{IsBest, IsFrom, IsBelow}
use Rattle.network.proofs.net.Net.next_of_all.Given as goal

-- the best of the keys so far
abbrev pub invariant-loop-key : goal.invariant-loop-key
invariant-loop-key l = IsBest (IsFrom l.number) (IsBelow l.number) l.self-inside.flights.slots l.key l.best
