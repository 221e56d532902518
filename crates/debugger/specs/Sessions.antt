-- What commands do to a debugging session.
use Rattle.std.specs.Prelude.{ℕ, ◌≡◌, ◌<◌, ◌≤◌, ◌⊎◌, ◌==◌, ◌/◌, ◌++◌, zero, suc, Bool, true, false, List, [], ◌∷◌, Option, Some, None, cond, is_some, length, position}
use Rattle.std.specs.Prelude.{remove}
use Rattle.std.specs.Option.{option_map, option_and_then, option_or}
use Rattle.words.specs.Limits.{block_bytes}
use Rattle.words.specs.declared.entry.Entry.{Entry}
use Rattle.words.specs.declared.entry.Entry.TheVariants.{Retire, Abort, Trap, Refuse, Spill}
use Rattle.words.specs.declared.entry.Step.{Step as MachineStep}
use Rattle.flat.specs.State.{Setting}
use Rattle.protocol.specs.Caches.{Geometry}
use Rattle.protocol.specs.Machine.{Machine}
use Rattle.machine.specs.Making.{MakesStep}
use Rattle.machine.specs.Reads.{regs_if}
use Rattle.machine.specs.States.{State, shown, setting_of}
use Rattle.machine.specs.Turns.{TakesTurn, hart_after}
use Rattle.machine.specs.Watch.{IsOver, IsEnabledByRule}
use Rattle.schedule.specs.Spelling.{name}
use Rattle.schedule.specs.declared.choices.Choice.{Choice}
use Rattle.schedule.specs.declared.choices.Choice.TheVariants as choice
use Rattle.schedule.specs.Steps.{IsStepOf}
use Rattle.debugger.specs.declared.commands.command.Command.{Command}
use Rattle.debugger.specs.declared.commands.command.Command.TheVariants.{Step, Run, Break, Core, Evict, Deliver, Look, Comment, Quit}
use Rattle.debugger.specs.declared.commands.fault.DebugFault.{DebugFault}
use Rattle.debugger.specs.declared.commands.fault.DebugFault.TheVariants.{Stopped, Limit, NoMemory}
use Rattle.debugger.specs.Refusals.{hart_fault, word_fault, text_fault}
use Rattle.debugger.specs.declared.report.Report.{Report}
use Rattle.debugger.specs.declared.report.Report.TheVariants as told

-- the machine; the hart whose core made the last step of a core; and the addresses with a breakpoint
pub record Session : Type 0 where
  pub machine : State
  pub last : ℕ
  pub breakpoints : List ℕ

-- no hart runs in a session's machine
abbrev pub IsIdle : ℕ → Session → Type 0
IsIdle sets s = IsOver sets s.machine

-- Turns

-- one turn of the session
abbrev pub Turns : Geometry → Session → Option Entry → Session → Type 0
Turns g s e t = (step : MachineStep) × TakesTurn g s.machine s.last step e t.machine × (t.last ≡ hart_after step s.last) × (t.breakpoints ≡ s.breakpoints)

-- so many turns, none with an entry
abbrev pub Waits : Geometry → ℕ → Session → Session → Type 0
Waits g zero s t = t ≡ s
Waits g (suc n) s t = (u : Session) × Waits g n s u × Turns g u None t

-- turns up to the first entry, fewer than so many before it
abbrev pub StepsTo : Geometry → ℕ → Session → Entry → Session → Type 0
StepsTo g most s e t = (n : ℕ) × (u : Session) × (n < most) × Waits g n s u × Turns g u (Some e) t

-- Runs

-- the hart that retired or aborted
abbrev pub mover : Entry → Option ℕ
mover (Retire i pc word write load store) = Some i
mover (Abort i cause) = Some i
mover (Trap i cause pc) = None
mover (Refuse i requester block) = None
mover (Spill i block) = None

abbrev pub has_breakpoint : List ℕ → ℕ → Bool
has_breakpoint breakpoints pc = is_some (position (λ b. b == pc) breakpoints)

-- the pc of a hart, where it is one
abbrev pub pc_if : Machine → ℕ → Option ℕ
pc_if w i = option_map (λ r. r.1) (regs_if w i)

-- the hart whose retirement or abort left its pc at a breakpoint, and that pc
abbrev pub break_at : ℕ → Session → Option Entry → Option (ℕ × ℕ)
break_at sets t e =
    option_and_then (λ i. option_and_then (λ pc. cond (has_breakpoint t.breakpoints pc) (Some (i, pc)) None) (pc_if (shown sets t.machine) i)) (option_and_then mover e)

-- a turn doesn't break a run off: it left no hart at a breakpoint, or none runs any more
abbrev pub LetsOn : ℕ → Session → Option Entry → Type 0
LetsOn sets t e = (break_at sets t e ≡ None) ⊎ IsIdle sets t

-- so many turns of a run: before each a hart runs, and none breaks the run off
abbrev pub RunsOn : Geometry → ℕ → Session → Session → Type 0
RunsOn g zero s t = t ≡ s
RunsOn g (suc n) s t = (u : Session) × (e : Option Entry) × RunsOn g n s u × (IsIdle g.sets u → ⊥) × Turns g u e t × LetsOn g.sets t e

-- a run ends where no hart runs
abbrev pub RunsOut : Geometry → ℕ → Session → Session → Type 0
RunsOut g most s t = (n : ℕ) × (n ≤ most) × RunsOn g n s t × IsIdle g.sets t

-- or after a turn that left a hart at a breakpoint
abbrev pub RunsInto : Geometry → ℕ → Session → ℕ → ℕ → Session → Type 0
RunsInto g most s i pc t =
    (n : ℕ) × (u : Session) × (e : Option Entry) × (n < most) × RunsOn g n s u × (IsIdle g.sets u → ⊥) × Turns g u e t × (break_at g.sets t e ≡ Some (i, pc)) × (IsIdle g.sets t → ⊥)

-- Breakpoints

-- the breakpoint at an address is cleared, where there is one
abbrev pub Clears : Session → ℕ → Session → Type 0
Clears s b t = (n : ℕ) × (position (λ a. a == b) s.breakpoints ≡ Some n) × (t ≡ record s { breakpoints = remove s.breakpoints n })

-- how many breakpoints there are at most
abbrev pub most_breakpoints : ℕ
most_breakpoints = 16

-- or it is set, behind the others, where there is room
abbrev pub Sets : Session → ℕ → Session → Type 0
Sets s b t = (has_breakpoint s.breakpoints b ≡ false) × (length s.breakpoints < most_breakpoints) × (t ≡ record s { breakpoints = s.breakpoints ++ b ∷ [] })

-- Steps by hand

-- a step isn't enabled
abbrev pub IsDisabled : Geometry → Session → Option MachineStep → Type 0
IsDisabled g s None = Unit {0}
IsDisabled g s (Some step) = IsEnabledByRule g s.machine step false

-- a step is enabled, and is made. A core's step makes its hart the last
abbrev pub Makes : Geometry → Session → Option MachineStep → Option Entry → Session → Type 0
Makes g s None e t = ⊥
Makes g s (Some step) e t =
    IsEnabledByRule g s.machine step true × MakesStep g s.machine step e t.machine × (t.last ≡ hart_after step s.last) × (t.breakpoints ≡ s.breakpoints)

-- what is told of a choice: the entry of its step; or the messages that it sent, from the number that the first of them got; or that there was nothing to do
abbrev pub Chooses : Geometry → Session → Choice → Report → Session → Type 0
Chooses g s c (told.Nothing) t = (step : Option MachineStep) × IsStepOf g.sets s.machine s.last c step × IsDisabled g s step × (t ≡ s)
Chooses g s c (told.Entry e) t = (step : Option MachineStep) × IsStepOf g.sets s.machine s.last c step × Makes g s step (Some e) t
Chooses g s c (told.Made number) t = (step : Option MachineStep) × IsStepOf g.sets s.machine s.last c step × Makes g s step None t × (number ≡ s.machine.sent)
Chooses g s c other t = ⊥

-- there is no memory for a step that is enabled: nothing is done
abbrev pub LacksRoom : Geometry → Session → Choice → Session → Type 0
LacksRoom g s c t = (step : MachineStep) × IsStepOf g.sets s.machine s.last c (Some step) × IsEnabledByRule g s.machine step true × (t ≡ s)

-- Commands

-- the fault of the hart and the address that a command names, the hart's first, if they have one
abbrev pub place_fault : Setting → Command → Option DebugFault
place_fault s (Break b) = text_fault s b
place_fault s (Core h) = hart_fault s h
place_fault s (Evict h a) = option_or (hart_fault s h) (word_fault s a)
place_fault s (Deliver sort h a) = option_or (hart_fault s h) (word_fault s a)
place_fault s other = None

-- why a command that isn't a look is refused: a fault of its places; or no hart runs, for `step`
abbrev pub IsDeedRefused : ℕ → Session → Command → DebugFault → Type 0
IsDeedRefused sets s Step fault = IsIdle sets s × (fault ≡ Stopped)
IsDeedRefused sets s other fault = place_fault (setting_of s.machine) other ≡ Some fault

-- its places are there
abbrev pub IsPlaced : Session → Command → Type 0
IsPlaced s command = place_fault (setting_of s.machine) command ≡ None

-- how many turns `step` waits for an entry
abbrev pub patience : ℕ
patience = 1000000

-- a command ends at a limit: so many turns were made; or there is no room for a further breakpoint
abbrev pub IsLimited : Geometry → Session → Command → Session → Type 0
IsLimited g s Step t = (IsIdle g.sets s → ⊥) × ((n : ℕ) × (n ≡ patience) × Waits g n s t)
IsLimited g s (Run n) t = RunsOn g n s t × (IsIdle g.sets t → ⊥)
IsLimited g s (Break b) t = IsPlaced s (Break b) × (has_breakpoint s.breakpoints b ≡ false) × (length s.breakpoints ≡ most_breakpoints) × (t ≡ s)
IsLimited g s other t = ⊥

-- a command ends for want of memory: some of its turns were made, and a hart runs, so that there is a further one; or its step is enabled
abbrev pub LacksMemory : Geometry → Session → Command → Session → Type 0
LacksMemory g s Step t = (n : ℕ) × (n < patience) × Waits g n s t × (IsIdle g.sets t → ⊥)
LacksMemory g s (Run n) t = (k : ℕ) × (k < n) × RunsOn g k s t × (IsIdle g.sets t → ⊥)
LacksMemory g s (Core h) t = IsPlaced s (Core h) × LacksRoom g s (choice.Core h) t
LacksMemory g s (Evict h a) t = IsPlaced s (Evict h a) × LacksRoom g s (choice.Evict h (a / block_bytes)) t
LacksMemory g s (Deliver sort h a) t = IsPlaced s (Deliver sort h a) × LacksRoom g s (choice.Deliver (name sort h (a / block_bytes))) t
LacksMemory g s other t = ⊥

-- a command ends with a fault, before anything is told
abbrev pub Fails : Geometry → Session → Command → DebugFault → Session → Type 0
Fails g s command Limit t = IsLimited g s command t
Fails g s command NoMemory t = LacksMemory g s command t
Fails g s command fault t = IsDeedRefused g.sets s command fault × (t ≡ s)

-- what a command does, and what it then has to tell. A look does nothing
abbrev pub Does : Geometry → Session → Command → Report → Session → Type 0
Does g s Step (told.Entry e) t = (IsIdle g.sets s → ⊥) × StepsTo g patience s e t
Does g s (Run n) (told.Stopped) t = RunsOut g n s t
Does g s (Run n) (told.Broke i pc) t = RunsInto g n s i pc t
Does g s (Break b) (told.Set place) t = (place ≡ b) × IsPlaced s (Break b) × Sets s b t
Does g s (Break b) (told.Cleared place) t = (place ≡ b) × IsPlaced s (Break b) × Clears s b t
Does g s (Core h) report t = IsPlaced s (Core h) × Chooses g s (choice.Core h) report t
Does g s (Evict h a) report t = IsPlaced s (Evict h a) × Chooses g s (choice.Evict h (a / block_bytes)) report t
Does g s (Deliver sort h a) report t = IsPlaced s (Deliver sort h a) × Chooses g s (choice.Deliver (name sort h (a / block_bytes))) report t
Does g s (Look l) (told.Silence) t = t ≡ s
Does g s Comment (told.Silence) t = t ≡ s
Does g s Quit (told.Silence) t = t ≡ s
Does g s other report t = ⊥
