-- The events of a step, in the Trace Event format. A step is a slice as long as one unit of time; a transaction is a slice around its steps; and a message is a flow, from the
-- step that sent it to the one in which it arrived.
use Rattle.std.specs.Prelude.{ℕ, ◌+◌, ◌++◌, cond, min, nat_le, Option, Some, None, List, [], ◌∷◌, codes, decimal}
use Rattle.std.specs.List.{concat, flat_map}
use Rattle.network.specs.declared.net.Flight.{Flight}
use Rattle.protocol.specs.Messages.{shown as shown_message}
use Rattle.machine.specs.States.{shown}
use Rattle.schedule.specs.Spelling.{sort_name}
use Rattle.schedule.specs.Steps.{name_of}
use Rattle.schedule.specs.Moments.{Moment}
use Rattle.timeline.specs.Marks.{lane_of, label_of, edge_of}
use Rattle.timeline.specs.declared.edge.Edge.{Edge}
use Rattle.timeline.specs.declared.edge.Edge.TheVariants.{Begun, Committed, Aborted}

-- the time of the next step (times end at the greatest u64)
abbrev pub next_time : ℕ → ℕ
next_time time = min (time + 1) 18446744073709551615

-- the slice of a step
abbrev pub slice_head : ℕ → ℕ → List ℕ
slice_head time lane = concat (codes ",\n{\"ph\":\"X\",\"dur\":1,\"ts\":" ∷ decimal time ∷ codes ",\"pid\":0,\"tid\":" ∷ decimal lane ∷ codes ",\"name\":\"" ∷ [])

abbrev pub slice_event : ℕ → ℕ → List ℕ → List ℕ
slice_event time lane label = slice_head time lane ++ (label ++ codes "\"}")

-- a transaction begins with its first step, and ends behind its last
abbrev pub begin_event : ℕ → ℕ → List ℕ
begin_event time lane = concat (codes ",\n{\"ph\":\"B\",\"name\":\"transaction\",\"ts\":" ∷ decimal time ∷ codes ",\"pid\":0,\"tid\":" ∷ decimal lane ∷ codes "}" ∷ [])

abbrev pub end_event : ℕ → ℕ → List ℕ → List ℕ
end_event time lane outcome = concat (
    codes ",\n{\"ph\":\"E\",\"args\":{\"outcome\":\"" ∷ outcome ∷ codes "\"},\"ts\":" ∷ decimal (next_time time) ∷ codes ",\"pid\":0,\"tid\":" ∷ decimal lane ∷ codes "}" ∷ [])

abbrev pub events_before : ℕ → ℕ → Edge → List ℕ
events_before time lane Begun = begin_event time lane
events_before time lane other = []

abbrev pub events_behind : ℕ → ℕ → Edge → List ℕ
events_behind time lane Committed = end_event time lane (codes "committed")
events_behind time lane Aborted = end_event time lane (codes "aborted")
events_behind time lane other = []

-- an end of a flow has the message's sort and number
abbrev pub flow_event : List ℕ → ℕ → ℕ → Flight → List ℕ
flow_event phase time lane flight = concat (
    codes ",\n{\"ph\":\"" ∷ phase ∷ codes "\",\"cat\":\"message\",\"name\":\"" ∷ sort_name (name_of (shown_message flight.message)).sort ∷ codes "\",\"id\":" ∷ decimal flight.number ∷ codes ",\"ts\":"
    ∷ decimal time ∷ codes ",\"pid\":0,\"tid\":" ∷ decimal lane ∷ codes "}" ∷ [])

abbrev pub arrival_event : ℕ → ℕ → Option Flight → List ℕ
arrival_event time lane None = []
arrival_event time lane (Some flight) = flow_event (codes "f\",\"bp\":\"e") time lane flight

-- a message was sent in a step if it is in flight after it, with a number that none had before
abbrev pub sent_event : ℕ → ℕ → ℕ → Flight → List ℕ
sent_event time lane sent flight = cond (nat_le sent flight.number) (flow_event (codes "s") time lane flight) []

abbrev pub sent_events : ℕ → ℕ → ℕ → List Flight → List ℕ
sent_events time lane sent flights = flat_map (sent_event time lane sent) flights

-- the events of a moment, where the caches have so many sets
abbrev pub events_in : ℕ → ℕ → ℕ → Moment → List ℕ
events_in sets time lane m =
    events_before time lane (edge_of m.entry (shown sets m.after)) ++ (slice_event time lane (label_of m.step m.arrival m.entry) ++ (arrival_event time lane m.arrival
    ++ (sent_events time lane m.sent m.after.flights ++ events_behind time lane (edge_of m.entry (shown sets m.after)))))

abbrev pub events_of : ℕ → ℕ → Moment → List ℕ
events_of sets time m = events_in sets time (lane_of m.step m.arrival) m

-- those of moments, one after another
abbrev pub events_from : ℕ → ℕ → List Moment → List ℕ
events_from sets time [] = []
events_from sets time (m ∷ ms) = events_of sets time m ++ events_from sets (next_time time) ms

-- the time behind moments
abbrev pub time_behind : ℕ → List Moment → ℕ
time_behind time [] = time
time_behind time (m ∷ ms) = time_behind (next_time time) ms
