-- A message that arrives is a step of the machine.
use Rattle.std.proofs.Common.{◌≡◌, ◌≤◌, ℕ, false, Option, Some, None, List, length, sym, ap, subst, ◌∙◌, refl}
use Rattle.std.specs.Prelude.{option_to_list}
use Rattle.words.specs.declared.entry.Entry.{Entry}
use Rattle.words.specs.declared.entry.Step.TheVariants.{Deliver}
use Rattle.protocol.specs.Messages.{Message as Told, receiver_of}
use Rattle.protocol.specs.Hart.{HartResult}
use Rattle.protocol.specs.HartMessages.{message_row}
use Rattle.flat.specs.Bytes.{put_at}
use Rattle.protocol.specs.Network.{Network, taken}
use Rattle.protocol.specs.Machine.{hart_change, delivery, arrival}
use Rattle.network.specs.Flights.{AreInOrder}
use Rattle.directory.specs.Blocks.{KeepsUsed}
use Rattle.hart.specs.Places.{KeepsWays}
use Rattle.hart.specs.Shown.{shown_hart}
use Rattle.machine.specs.Mail.{SendsOn, in_flight, mail_of}
use Rattle.machine.specs.Making.{BringsAbout, MakesStep, AllKeepWays, AllKeepLogs}
use Rattle.machine.specs.States.{Seat, State, shown, geometry, hart_at, setting_of, IsSeated, IsSound}
use Rattle.machine.proofs.Acting.{Acts, seat_before, hart_before}
use Rattle.machine.proofs.Made.{nothing, steps_of}
use Rattle.machine.proofs.Sending.{left_without}
use Rattle.machine.proofs.Steps.{of_hart, of_none, hart_does}
use Rattle.machine.proofs.Sound.{still_sound}
use Rattle.machine.proofs.Staying.{seats_stay, others_stay, logs_stay, other_logs_stay}

-- a message to a hart, or to the directory, comes about as a step if its arrival does
pub arrives : (sets ways number : ℕ) (v : State) (m : Told) (to : Option ℕ) (e : Option Entry) (w : State) → in_flight v.flights number ≡ Some m → receiver_of m ≡ to
    → AllKeepWays sets v w → AllKeepLogs v w → KeepsUsed w.directory → AreInOrder w.flights → BringsAbout sets v (arrival number m to (shown sets v)) e w → MakesStep (geometry sets ways) v (Deliver number) e w
arrives sets ways number v m to e w here goes keep logs used order about = record {
  may = tt {0};
  made = subst (λ o. BringsAbout sets v (delivery number o (shown sets v)) e w) (sym here)
      (subst (λ o. BringsAbout sets v (arrival number m o (shown sets v)) e w) (sym goes) about);
  ways = keep;
  logs = logs;
  kept = used;
  order = order;
}

-- no message arrives with a number that none has
pub arrives_none : (sets ways number : ℕ) (v : State) → IsSound sets ways v → in_flight v.flights number ≡ None → MakesStep (geometry sets ways) v (Deliver number) None v
arrives_none sets ways number v sound none = record { may = tt {0}; made = subst (λ o. BringsAbout sets v (delivery number o (shown sets v)) None v) (sym none) (nothing sets v); ways = seats_stay sets v v refl; logs = logs_stay v v refl; kept = sound.kept; order = sound.order }

-- nor one for a number that is no hart's
pub arrives_nowhere : (sets ways number i : ℕ) (v : State) (m : Told) → IsSound sets ways v → in_flight v.flights number ≡ Some m → receiver_of m ≡ Some i → length v.seats ≤ i
    → MakesStep (geometry sets ways) v (Deliver number) None v
arrives_nowhere sets ways number i v m sound here goes past = arrives sets ways number v m (Some i) None v here goes (seats_stay sets v v refl) (logs_stay v v refl) sound.kept sound.order (of_none sets i v _ past)

-- what a hart made of a message, as its row has it, and what it sends and shows
abbrev pub AnswersAs : ℕ → Told → Seat → Seat → Option Told → Option Entry → Type 0
AnswersAs sets m old new sent entry =
    (output : List ℕ) → message_row old.hart.harts old.hart.index m (shown_hart sets output old.hart) ≡ record { hart = shown_hart sets output new.hart; sent = sent; entry = entry; stamped = false }

-- a message arrives at a hart, which sends its answer; that depends on the hart's number
pub arrives_at_hart : (sets ways number i : ℕ) (v w : State) (old new : Seat) (m : Told) (sent : ℕ → Option Told) (entry : ℕ → Option Entry) → IsSound sets ways v → Acts i v w old new
    → new.output ≡ old.output → w.stamps ≡ v.stamps → in_flight v.flights number ≡ Some m → receiver_of m ≡ Some i → KeepsWays sets old.hart.cache new.hart.cache
    → AnswersAs sets m old new (sent new.hart.index) (entry new.hart.index) → SendsOn (put_at number None (mail_of v.flights)) v.sent (option_to_list (sent i)) (mail_of w.flights) w.sent
    → AreInOrder w.flights → MakesStep (geometry sets ways) v (Deliver number) (entry i) w × IsSound sets ways w
arrives_at_hart sets ways number i v w old new m sent entry sound a output stamps here goes keeps does sends order =
    (made, still_sound sets ways i v w old new (Deliver number) (entry i) sound a order (steps_of (geometry sets ways) v (Deliver number) (entry i) w made))
  where
    seated : IsSeated (setting_of v) i old.hart
    seated = sound.seats i old (seat_before i v w old new a)

    index : new.hart.index ≡ i
    index = a.stays.index ∙ seated.index

    answer : HartResult
    answer = record { hart = shown_hart sets old.output new.hart; sent = sent i; entry = entry i; stamped = false }

    row : message_row (length v.seats) i m (hart_at sets v.seats i) ≡ answer
    row = ap (message_row (length v.seats) i m) (hart_before sets i v w old new a)
        ∙ (λ k. message_row (sym seated.harts k) (sym seated.index k) m (shown_hart sets old.output old.hart))
        ∙ does old.output
        ∙ (λ k. record { hart = shown_hart sets old.output new.hart; sent = sent (index k); entry = entry (index k); stamped = false })

    base : Network
    base = taken number (in_flight v.flights)

    about : BringsAbout sets v (hart_change i answer (record (shown sets v) { net = base })) (entry i) w
    about = hart_does sets i answer base v w old new
        (record { acts = a; hart = ap (λ o. shown_hart sets o new.hart) output; stamps = stamps; left = put_at number None (mail_of v.flights); leaves = left_without number v.flights; sends = sends })

    made : MakesStep (geometry sets ways) v (Deliver number) (entry i) w
    made = arrives sets ways number v m (Some i) (entry i) w here goes (others_stay sets i v w old new a keeps) (other_logs_stay i v w old new a) (subst KeepsUsed (sym a.directory) sound.kept) order
        (of_hart sets i v _ (entry i) w a.number
        (subst (λ t. BringsAbout sets v (hart_change i t (record (shown sets v) { net = base })) (entry i) w) (sym row) about))
