-- A machine that is debugged.
use Rattle.std.specs.Prelude.{ℕ, ◌≡◌, ◌-◌, Bool, true, false, List, [], Option, Result, Ok, Err}
use Rattle.words.specs.Sinks.{SinkState}
use Rattle.disassembler.specs.Tables.{Table}
use Rattle.protocol.specs.Caches.{Geometry}
use Rattle.machine.specs.States.{State, setting_of}
use Rattle.debugger.specs.declared.commands.fault.DebugFault.{DebugFault}
use Rattle.debugger.specs.declared.session.Flow.{Flow}
use Rattle.debugger.specs.declared.session.Flow.TheVariants.{Go, Quit}
use Rattle.debugger.specs.Sessions.{Session}
use Rattle.debugger.specs.Answers.{Answers}
use Rattle.debugger.specs.declared.fault.ConsoleFault.{ConsoleFault}
use Rattle.debugger.specs.LineAnswers.{Answering}
use Rattle.debugger.specs.Plays.{Giving, IsPlayed}

abbrev pub goes_on : Flow → Bool
goes_on Go = true
goes_on Quit = false

-- what a session's answer says
abbrev pub said : Result Flow DebugFault → Result Bool DebugFault
said (Ok flow) = Ok (goes_on flow)
said (Err fault) = Err fault

-- a debugger's session answers
abbrev pub answers : Geometry → Table → Answering Session
answers g names s command t before after answer =
    (told : Result Flow DebugFault) × Answers g names s command t before after told × (answer ≡ said told)

-- the session that a machine begins with
abbrev pub begun : State → Session
begun m = record { machine = m; last = (setting_of m).count - 1; breakpoints = [] }

-- with these names a session of the machine, which answers commands so, answers the lines of an input, up to the end that this result tells
abbrev pub IsDebugged : {I : Type 0} → Answering Session → Table → Giving I → State → List ℕ → I → I → SinkState → SinkState → SinkState → SinkState → Result Unit ConsoleFault → Type 0
IsDebugged answering names gives m prompt i j told_before told_after asked_before asked_after r =
    (last : Session) × IsPlayed names answering gives prompt
    (record { session = begun m; input = i; told = told_before; asked = asked_before })
    (record { session = last; input = j; told = told_after; asked = asked_after }) r
