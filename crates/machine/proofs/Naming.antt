-- A message in flight is the only one of its name.
use Rattle.std.proofs.Common.{◌≡◌, ℕ, Option, Some, None, sym, ap}
use Rattle.std.specs.Prelude.{IfSome}
use Rattle.std.specs.Option.{option_map}
use Rattle.network.specs.Flights.{message_at}
use Rattle.words.specs.declared.message.Message.{Message as Coded}
use Rattle.flat.specs.State.{Flat}
use Rattle.protocol.specs.Caches.{Geometry}
use Rattle.protocol.specs.Messages.{Message, shown as shown_message}
use Rattle.isolation.specs.Belongs.{Belongs}
use Rattle.isolation.specs.Facts.{IsAlike, IsAwaited}
use Rattle.isolation.proofs.Belongs.Belonging.{world, inv_of}
use Rattle.isolation.proofs.Consequences.RequestLaws.{awaited}
use Rattle.machine.specs.States.{State, shown}

-- there is no other message like the one with a number, if there is one
abbrev pub IsAlone : ℕ → State → ℕ → Option Coded → Type 0
IsAlone sets m number o = IfSome o (λ c. (other : ℕ) (n : Message) → (shown sets m).net other ≡ Some n → IsAlike n (shown_message c) → other ≡ number)

pub alone : (g : Geometry) (f : Flat) (m : State) (number : ℕ) (o : Option Coded) → Belongs g f (shown g.sets m) → o ≡ message_at m.flights number → IsAlone g.sets m number o
alone g f m number None belongs is = tt
alone g f m number (Some c) belongs is = λ other n there alike.
    let i = inv_of g f (shown g.sets m) belongs in
    let law : IsAwaited (shown g.sets m) = awaited (world (shown g.sets m) f belongs.entries i.0) i.1 in
    law.once other number n (shown_message c) there (sym (ap (option_map shown_message) is)) alike
