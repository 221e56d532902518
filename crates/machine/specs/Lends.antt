-- What the harts of a machine are once a loan of them has ended.
use Rattle.std.specs.Prelude.{ℕ, List, length, slice_set}
use Rattle.std.specs.List.{refill}
use Rattle.std.specs.Borrow.{Lends, Fml, RattleType, MutBor, Array}
use Rattle.machine.specs.States.{Seat}
use Rattle.machine.specs.Seats.{Seats}
use Rattle.machine.specs.contracts.seating.Seats.{the_row}
use Rattle.machine.specs.contracts.seat.Seat.{the_row as seat_row}

module _ (SETS WAYS : RattleType) (seats : MutBor Seats) where
  -- all of them were lent: they are those that the loan shows last
  abbrev pub lends_slice : MutBor (List Seat) → Fml
  lends_slice r = Lends (the_row SETS WAYS) (Array (seat_row SETS WAYS) 0) seats r (λ xs. record { items = refill (length seats.now.items) seats.now.items xs })

  -- this one was lent: it is what was written through the loan last
  abbrev pub lends_seat : ℕ → MutBor Seat → Fml
  lends_seat i r = Lends (the_row SETS WAYS) (seat_row SETS WAYS) seats r (λ x. record { items = slice_set seats.now.items i x })
