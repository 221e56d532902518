-- A turn of a hart is next where all messages are held. Which is the oldest that is not is told of the machine as of its parts.
use Rattle.std.proofs.Common.{◌≡◌, ℕ, Some, None, Option, List, IfSome, IfNone, refl}
use Rattle.words.specs.declared.entry.Step.{Step}
use Rattle.words.specs.declared.entry.Step.TheVariants.{Core, Evict, Deliver}
use Rattle.network.specs.declared.net.Flight.{Flight}
use Rattle.protocol.specs.Machine.{Machine}
use Rattle.machine.specs.Turns.{AllHeld, IsHartsTurn, IsNextTurn, IsOldestFree}

pub turn_of_harts : (w : Machine) (flights : List Flight) (after : ℕ) (step : Option Step) → AllHeld w flights → IsHartsTurn w.harts w.setting.count after step → IsNextTurn w flights after step
turn_of_harts w flights after None all turn = (all, turn)
turn_of_harts w flights after (Some (Core i)) all turn = (all, turn)
turn_of_harts w flights after (Some (Evict i b)) all turn = (all, turn)
turn_of_harts w flights after (Some (Deliver number)) all turn = absurd turn

module _ (w : Machine) (flights : List Flight) where
  pub free_in : (o : Option ℕ) → IfSome o (λ number. (u : Machine) → u.entries ≡ w.entries → IsOldestFree u flights number) → IfSome o (IsOldestFree w flights)
  free_in None free = tt
  free_in (Some number) free = free w refl

  pub held_in : (o : Option ℕ) → IfNone o ((u : Machine) → u.entries ≡ w.entries → AllHeld u flights) → IfNone o (AllHeld w flights)
  held_in None held = held w refl
  held_in (Some number) held = tt
