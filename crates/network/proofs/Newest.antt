-- The last message that was sent.
use Rattle.std.proofs.Common.{◌≡◌, ◌≢◌, ◌+◌, ◌%◌, ◌<◌, ℕ, List, Option, Some, None, get_or, arith, ◌∙◌, sym}
use Rattle.network.specs.declared.net.Flight.{Flight}
use Rattle.network.specs.Flights.{IsNewest, HasNewestArrived}
use Rattle.network.specs.Sorted.{in_order, AreKept, IsUnder}
use Rattle.network.proofs.Sorted.{found}
use Rattle.network.proofs.Under.{held_at, at_key, not_there}

module _ (slots : List (Option Flight)) (next : ℕ) (keys : List ℕ) (kept : AreKept slots next keys) (number : ℕ) (last : number + 1 ≡ next) where
  -- the message that has the last number is the newest
  pub newest_here : (key : ℕ) → IsUnder slots number key → IsNewest (in_order slots) next number
  newest_here key under =
      let one = held_at slots number key under in
      record {
        flight = one.0;
        here = sym (at_key slots kept.apart number key under) ∙ one.1;
        last = last;
        others = λ other g ne at. let here = found slots other g at in omega (arith, here.2, kept.below here.0 g here.1, ne, last);
      }

  -- or it has arrived
  pub newest_arrived : next < 18446744073709551615 → ((f : Flight) → get_or slots (get_or keys (number % 64) 0) None ≡ Some f → f.number ≢ number) → HasNewestArrived (in_order slots) next
  newest_arrived range none other g at =
      let here = found slots other g at in
      let apart : g.number ≢ number = not_there slots next keys number kept range (omega (arith, last)) none here.0 g here.1 in
      omega (arith, here.2, kept.below here.0 g here.1, apart, last)
