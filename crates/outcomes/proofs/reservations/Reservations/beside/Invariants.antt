use Rattle.std.proofs.Common.{◌≡◌, ℕ, cond}
use Rattle.std.specs.Prelude.{nat_lt}
use Rattle.flat.specs.Reservations.{reserved_beside}
use Rattle.outcomes.specs.Reservations.{reserved_of}
use Rattle.outcomes.proofs.reservations.Reservations.beside.Given as goal

-- the reservations of the harts below k are those beside the store
abbrev pub invariant-loop-k : goal.invariant-loop-k
invariant-loop-k l = (i : ℕ) → reserved_of l.next i ≡ cond (nat_lt i l.k) (reserved_beside l.store (reserved_of l.fn.self i)) (reserved_of l.fn.self i)
