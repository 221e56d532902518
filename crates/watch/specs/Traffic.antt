-- What the steps of a run and its messages count as, and how much was in flight and in use.
use Rattle.std.specs.Prelude.{ℕ, ◌≡◌, ◌≤◌, ◌+◌, ◌-◌, ◌*◌, ◌==◌, ◌&&◌, min, max, nat_le, Bool, List, [], ◌∷◌, length, count_by, get_or}
use Rattle.words.specs.declared.entry.Step.{Step}
use Rattle.words.specs.declared.entry.Step.TheVariants.{Core, Evict, Deliver}
use Rattle.network.specs.declared.net.Flight.{Flight}
use Rattle.protocol.specs.Messages.{Message, shown}
use Rattle.machine.specs.declared.serving.Service.{Service}
use Rattle.schedule.specs.declared.choices.Sort.TheVariants.{Get, Put, Done, Grant, Forward, PutAck, Ack, Nack}
use Rattle.schedule.specs.Steps.{name_of}
use Rattle.schedule.specs.Moments.{Moment}
use Rattle.watch.specs.Kinds.{one_if}
use Rattle.watch.specs.declared.figures.Sum.{Sum}
use Rattle.watch.specs.declared.figures.Figure.{Figure}
use Rattle.watch.specs.declared.figures.Sum.TheVariants.{Cores, Evictions, Deliveries, Sent}
use Rattle.watch.specs.declared.figures.Figure.TheVariants as figure
use Rattle.watch.specs.declared.traffic.Noted.{Noted}
use Rattle.watch.specs.declared.traffic.Traffic.{Traffic}

-- the place of a sum
abbrev pub place_of : Sum → ℕ
place_of Cores = 0
place_of Evictions = 1
place_of Deliveries = 2
place_of (Sent Get) = 3
place_of (Sent Put) = 4
place_of (Sent Done) = 5
place_of (Sent Grant) = 6
place_of (Sent Forward) = 7
place_of (Sent PutAck) = 8
place_of (Sent Ack) = 9
place_of (Sent Nack) = 10

abbrev pub is_same : Sum → Sum → Bool
is_same s t = place_of s == place_of t

-- what a step counts as, enabled or not; and a message
abbrev pub sum_of_step : Step → Sum
sum_of_step (Core i) = Cores
sum_of_step (Evict i b) = Evictions
sum_of_step (Deliver number) = Deliveries

abbrev pub sum_of_message : Message → Sum
sum_of_message m = Sent (name_of m).sort

-- whether a message that counts as this was sent when so many had been before: it is in flight, with a number that none had then
abbrev pub was_sent : ℕ → Sum → Flight → Bool
was_sent before s flight = nat_le before flight.number && is_same s (sum_of_message (shown flight.message))

-- how often a moment counts as this: its step, and the messages that were sent in it
abbrev pub number_at : Sum → Moment → ℕ
number_at s m = one_if (is_same s (sum_of_step m.step)) + count_by (was_sent m.sent s) m.after.flights

abbrev pub total : Sum → List Moment → ℕ
total s [] = 0
total s (m ∷ ms) = number_at s m + total s ms

-- how many messages were in flight after a step, and how many entries of the directory in use
abbrev pub in_flight : Moment → ℕ
in_flight m = length m.after.flights

abbrev pub in_use : Moment → ℕ
in_use m = length m.after.directory.kept

-- the greatest of some moments
abbrev pub most : (Moment → ℕ) → List Moment → ℕ
most level [] = 0
most level (m ∷ ms) = max (level m) (most level ms)

-- a number, up to the greatest u64
abbrev pub capped : ℕ → ℕ
capped n = min n 18446744073709551615

-- a sum rose by so many, up to the greatest u64
abbrev pub Rises : ℕ → ℕ → ℕ → Type 0
Rises before more after = before ≤ 18446744073709551615 → after ≡ capped (before + more)

-- what is told of some moments
abbrev pub figure_of : List Moment → Figure → ℕ
figure_of ms (figure.Sum s) = capped (total s ms)
figure_of ms figure.MostInFlight = most in_flight ms
figure_of ms figure.MostInUse = most in_use ms

-- a sum, of those that stand by their places
abbrev pub sum_in : List ℕ → Sum → ℕ
sum_in sums s = get_or sums (place_of s) 0

-- nothing was noted
abbrev pub nothing : Noted
nothing = record { cores = 0; requests = 0; served = 0; answers = 0; refusals = 0; ended = 0 }

-- how often what was noted counts as this: the requests that were served and all that was sent to serve them arrived
abbrev pub told : Sum → Noted → ℕ
told s n =
    (n.cores + n.requests) * one_if (is_same s Cores) + n.requests * one_if (is_same s (Sent Get))
    + (2 * n.served + 2 * n.answers + n.ended) * one_if (is_same s Deliveries) + n.served * one_if (is_same s (Sent Grant)) + n.answers * one_if (is_same s (Sent Forward))
    + (n.answers - n.refusals) * one_if (is_same s (Sent Ack)) + n.refusals * one_if (is_same s (Sent Nack)) + n.ended * one_if (is_same s (Sent Done))

-- a sum with what was noted and isn't in it yet; that of a run; and what is told in all
abbrev pub sum_with : Noted → List ℕ → Sum → ℕ
sum_with n sums s = capped (sum_in sums s + told s n)

abbrev pub sum_at : Traffic → Sum → ℕ
sum_at t s = sum_with t.pending t.sums s

abbrev pub figure_at : Traffic → Figure → ℕ
figure_at t (figure.Sum s) = sum_at t s
figure_at t figure.MostInFlight = t.most_in_flight
figure_at t figure.MostInUse = t.most_in_use

-- the messages in flight that were sent when so many had been before are counted, each as what it counts as
abbrev pub AddsSent : ℕ → List Flight → Traffic → Traffic → Type 0
AddsSent before flights old new = (s : Sum) → Rises (sum_at old s) (count_by (was_sent before s) flights) (sum_at new s)

-- how often the messages of a request that was served at once count as this: all of them arrive; and a grant, forwards, answers and an end are sent
abbrev pub served_as : Sum → Service → ℕ
served_as s x =
    (2 + 2 * x.answers + x.ended) * one_if (is_same s Deliveries) + 1 * one_if (is_same s (Sent Grant)) + x.answers * one_if (is_same s (Sent Forward))
    + (x.answers - x.refusals) * one_if (is_same s (Sent Ack)) + x.refusals * one_if (is_same s (Sent Nack)) + x.ended * one_if (is_same s (Sent Done))
