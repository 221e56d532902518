use Rattle.std.proofs.Common.{◌≡◌}
use Rattle.protocol.specs.Machine.{Machine}
use Rattle.protocol.specs.Values.{all_restored}
use Rattle.machine.specs.States.{hart_at}
use Rattle.machine.proofs.values.restored.Given as goal

-- the logs of the harts so far are undone
abbrev pub invariant-loop-seat : goal.invariant-loop-seat
invariant-loop-seat g l = (w : Machine) → w.harts ≡ hart_at g.row.SETS l.seats → l.words ≡ all_restored l.seat-index w l.block l.fn.now
