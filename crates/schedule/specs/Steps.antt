-- The step that a choice is on a machine.
use Rattle.std.specs.Prelude.{ℕ, ◌≡◌, ◌<◌, Option, Some, None}
use Rattle.words.specs.declared.entry.Step.{Step}
use Rattle.words.specs.declared.entry.Step.TheVariants as step
use Rattle.words.specs.Limits.{most_harts}
use Rattle.flat.specs.State.{Setting}
use Rattle.isolation.specs.Memory.{LiesInMemory}
use Rattle.protocol.specs.Messages.{Message, Get, Put, Done, Grant, Forward, PutAck, Ack, Nack}
use Rattle.protocol.specs.Machine.{Machine}
use Rattle.machine.specs.States.{State, shown}
use Rattle.machine.specs.Turns.{IsNextTurn}
use Rattle.schedule.specs.declared.choices.Sort.TheVariants as sort
use Rattle.schedule.specs.declared.choices.Name.{Name}
use Rattle.schedule.specs.declared.choices.Choice.{Choice}
use Rattle.schedule.specs.declared.choices.Choice.TheVariants.{Core, Evict, Deliver, Turn}
use Rattle.schedule.specs.Spelling.{name}

-- a message's name has the hart that it is from, or that it goes to from the directory
abbrev pub name_of : Message → Name
name_of (Get from block kind stamp) = name sort.Get from block
name_of (Put from block content marked) = name sort.Put from block
name_of (Done from block ok content) = name sort.Done from block
name_of (Grant to block granted) = name sort.Grant to block
name_of (Forward to block kind requester stamp) = name sort.Forward to block
name_of (PutAck to block) = name sort.PutAck to block
name_of (Ack from to block content) = name sort.Ack from block
name_of (Nack from to block stamp) = name sort.Nack from block

-- a message of this name is in flight with a number
abbrev pub FliesAs : Machine → Name → ℕ → Type 0
FliesAs w n number = (m : Message) × (w.net number ≡ Some m) × (name_of m ≡ n)

-- the arrival of the message of a name: there is no other of that name; or none is in flight
abbrev pub IsArrivalOf : Machine → Name → Option Step → Type 0
IsArrivalOf w n None = (number : ℕ) → FliesAs w n number → ⊥
IsArrivalOf w n (Some (step.Deliver number)) = FliesAs w n number × ((other : ℕ) → FliesAs w n other → other ≡ number)
IsArrivalOf w n (Some other) = ⊥

-- a choice is this step, or none, where the last core step was this hart's
abbrev pub IsStepOf : ℕ → State → ℕ → Choice → Option Step → Type 0
IsStepOf sets m after (Core h) s = s ≡ Some (step.Core h)
IsStepOf sets m after (Evict h b) s = s ≡ Some (step.Evict h b)
IsStepOf sets m after (Deliver n) s = IsArrivalOf (shown sets m) n s
IsStepOf sets m after Turn s = IsNextTurn (shown sets m) m.flights after s

-- a choice is this step, whosever the last core step was
abbrev pub IsChoiceOf : ℕ → State → Step → Choice → Type 0
IsChoiceOf sets m step c = (after : ℕ) → IsStepOf sets m after c (Some step)

-- a name's hart is one that a machine may have, and its block lies in memory
abbrev pub IsNamedIn : Setting → Name → Type 0
IsNamedIn s n = (n.hart < most_harts) × LiesInMemory s n.block

-- a choice is of one step, and so are its hart and its block
abbrev pub IsWithin : Setting → Choice → Type 0
IsWithin s (Core hart) = hart < most_harts
IsWithin s (Evict hart block) = (hart < most_harts) × LiesInMemory s block
IsWithin s (Deliver name) = IsNamedIn s name
IsWithin s Turn = ⊥
