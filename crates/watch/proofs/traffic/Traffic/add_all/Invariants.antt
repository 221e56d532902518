use Rattle.std.proofs.Common.{◌≡◌, ◌-◌}
use Rattle.std.specs.Prelude.{count_by}
use Rattle.watch.specs.declared.figures.Sum.{Sum}
use Rattle.watch.specs.Traffic.{sum_at, was_sent}
use Rattle.watch.proofs.Sending.{LeadsTo}
use Rattle.watch.proofs.traffic.Traffic.add_all.Given as goal

-- those from the number on are left to be counted
abbrev pub invariant-loop-flight : goal.invariant-loop-flight
invariant-loop-flight g l = record {
  counted : (s : Sum) → LeadsTo (sum_at l.self s) (count_by (was_sent l.number s) l.machine.flights) (sum_at l.fn.self s) (count_by (was_sent l.sent s) l.machine.flights);
  rest : l.self ≡ record l.fn.self { sums = l.self.sums };
}

abbrev pub decreases-loop-flight : goal.decreases-loop-flight
decreases-loop-flight g l = l.machine.sent - l.number
