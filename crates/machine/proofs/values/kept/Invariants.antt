use Rattle.std.proofs.Common.{◌≡◌, ◌<◌, ℕ, None}
use Rattle.protocol.specs.Values.{kept_content}
use Rattle.machine.specs.States.{hart_at}
use Rattle.machine.proofs.values.kept.Given as goal

-- no hart so far has kept one
abbrev pub invariant-loop-seat : goal.invariant-loop-seat
invariant-loop-seat g l = (i : ℕ) → i < l.seat-index → kept_content l.block (hart_at g.row.SETS l.seats i).request ≡ None
