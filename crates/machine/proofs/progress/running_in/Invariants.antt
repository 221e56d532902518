use Rattle.std.proofs.Common.{◌≡◌, ◌≤◌, ◌+◌, drop}
use Rattle.machine.specs.Turns.{number_running}
use Rattle.machine.proofs.progress.running_in.Given as goal

-- those so far, and those that are left
abbrev pub invariant-loop-seat : goal.invariant-loop-seat
invariant-loop-seat g l = (l.running + number_running (drop l.seat-index l.seats) ≡ number_running l.seats) × (l.running ≤ l.seat-index)
