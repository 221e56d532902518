use Rattle.std.proofs.Common.{◌≡◌, ◌≤◌, ℕ, Some, None, get_or}
use Rattle.network.specs.declared.net.Flight.{Flight}
use Rattle.network.proofs.net.Net.next_from.Given as goal

-- no message has a number so far
abbrev pub invariant-loop-other : goal.invariant-loop-other
invariant-loop-other l = record {
  from : l.number ≤ l.other;
  none : (key : ℕ) (f : Flight) → get_or l.self-inside.flights.slots key None ≡ Some f → l.number ≤ f.number → l.other ≤ f.number;
}
