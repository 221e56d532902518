use Rattle.std.proofs.Common.{◌≡◌, length}
use Rattle.machine.proofs.Beginning.{AreFirst}
use Rattle.machine.proofs.machine.Machine.first_seats.Given as goal

-- the first i harts stand
abbrev pub invariant-loop-i : goal.invariant-loop-i
invariant-loop-i g l = (length l.seats.items ≡ l.i) × AreFirst g.row.SETS g.row.WAYS l.size l.harts l.entry l.seats.items
