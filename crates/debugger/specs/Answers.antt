-- How a session answers a command.
use Rattle.std.specs.Prelude.{ℕ, ◌≡◌, ◌⊎◌, List, Option, Some, None, Result, Ok, Err}
use Rattle.words.specs.declared.sink.SinkFault.{SinkFault}
use Rattle.words.specs.Sinks.{SinkState}
use Rattle.texts.specs.Puts.{Puts}
use Rattle.disassembler.specs.Tables.{Table}
use Rattle.protocol.specs.Caches.{Geometry}
use Rattle.debugger.specs.declared.commands.command.Command.{Command}
use Rattle.debugger.specs.declared.commands.command.Command.TheVariants.{Quit, Look as LookAt}
use Rattle.debugger.specs.declared.commands.command.Look.{Look}
use Rattle.debugger.specs.declared.commands.fault.DebugFault.{DebugFault}
use Rattle.debugger.specs.declared.commands.fault.DebugFault.TheVariants.{Device}
use Rattle.debugger.specs.declared.report.Report.{Report}
use Rattle.debugger.specs.declared.session.Flow.{Flow}
use Rattle.debugger.specs.declared.session.Flow.TheVariants as flow
use Rattle.debugger.specs.Looks.{Shows, refusal}
use Rattle.machine.specs.States.{State}
use Rattle.debugger.specs.Sessions.{Session, Does, Fails, IsDeedRefused}
use Rattle.debugger.specs.Texts.{IsTextOf}

-- only `quit` ends a session
abbrev pub flow_of : Command → Flow
flow_of Quit = flow.Quit
flow_of other = flow.Go

-- a command was done, and what it has to tell was put; or a put failed, and the command is done all the same; or it ended with a fault, and
-- nothing was put
abbrev pub Carries : Geometry → Table → Session → Command → Session → SinkState → SinkState → Result Flow DebugFault → Type 0
Carries g names s command t before after (Ok f) =
    (report : Report) × (text : List ℕ) × Does g s command report t × IsTextOf names t.machine report text × Puts before after text (Ok tt) × (f ≡ flow_of command)
Carries g names s command t before after (Err Device) =
    (report : Report) × (text : List ℕ) × (fault : SinkFault) × Does g s command report t × IsTextOf names t.machine report text × Puts before after text (Err fault)
Carries g names s command t before after (Err fault) = Fails g s command fault t × (after ≡ before)

-- a look isn't refused, and what it shows was put; or a put failed; or it was refused, and nothing was put
abbrev pub ShowsLook : Table → ℕ → State → Look → SinkState → SinkState → Result Flow DebugFault → Type 0
ShowsLook names sets m l before after (Ok f) = (refusal m l ≡ None) × Shows names sets m l before after (Ok tt) × (f ≡ flow.Go)
ShowsLook names sets m l before after (Err fault) =
    ((fault ≡ Device) × (refusal m l ≡ None) × (put : SinkFault) × Shows names sets m l before after (Err put))
    ⊎ ((refusal m l ≡ Some fault) × (after ≡ before))

-- how a command is answered. A look leaves the session as it is
abbrev pub Answers : Geometry → Table → Session → Command → Session → SinkState → SinkState → Result Flow DebugFault → Type 0
Answers g names s (LookAt l) t before after result = ShowsLook names g.sets s.machine l before after result × (t ≡ s)
Answers g names s command t before after result = Carries g names s command t before after result

-- why a command is refused before it does anything
abbrev pub IsRefused : ℕ → Session → Command → DebugFault → Type 0
IsRefused sets s (LookAt l) fault = refusal s.machine l ≡ Some fault
IsRefused sets s command fault = IsDeedRefused sets s command fault
