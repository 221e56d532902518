use Rattle.std.proofs.Common.{arith}
use Rattle.network.proofs.Sorted.{none_from}
use Rattle.network.proofs.net.next_number.Goals as goal

pub returns-then-next-lt18446744073709551615-clause-number : goal.returns-then-next-lt18446744073709551615-clause-number
returns-then-next-lt18446744073709551615-clause-number c = record {
  below = omega arith;
  free = none_from c.args.flights.now.slots c.args.next (λ key f at e. omega (arith, e, c.requires.below key f at));
  greatest = λ other above below. absurd (omega (arith, above, below));
}
