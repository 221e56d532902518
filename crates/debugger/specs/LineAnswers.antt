-- How a line is answered.
use Rattle.std.specs.Prelude.{ℕ, ◌≡◌, ◌≤◌, Bool, true, List, [], ◌∷◌, Option, Some, None, Result, Ok, Err, IsUtf8, length, codes}
use Rattle.std.specs.List.{concat}
use Rattle.words.specs.declared.sink.SinkFault.{SinkFault}
use Rattle.words.specs.Sinks.{SinkState}
use Rattle.disassembler.specs.Tables.{Table}
use Rattle.texts.specs.Puts.{Puts}
use Rattle.debugger.specs.declared.commands.command.Command.{Command}
use Rattle.debugger.specs.declared.commands.fault.DebugFault.{DebugFault}
use Rattle.debugger.specs.declared.commands.fault.DebugFault.TheVariants.{Unknown, Device}
use Rattle.debugger.specs.Faults.{fault_text}
use Rattle.debugger.specs.Spelling.{command_of}
use Rattle.debugger.specs.declared.fault.ConsoleFault.{ConsoleFault}
use Rattle.debugger.specs.declared.fault.ConsoleFault.TheVariants.{Unwritten}
use Rattle.debugger.specs.Lines.{without_return}

-- a text of at most 255 bytes
abbrev pub IsShortText : List ℕ → Type 0
IsShortText line = (length line ≤ 255) × IsUtf8 line

-- a line asks for the command that it spells, the carriage return at its end passed over; a long one, and one that is no text, asks for none
pub record Asks (names : Table) (line : List ℕ) (asked : Option Command) : Type 0 where
  pub spelled : IsShortText (without_return line) → asked ≡ command_of names (without_return line)
  pub passed : (IsShortText (without_return line) → ⊥) → asked ≡ None

-- the number and the name of a fault that is told. A put that failed is not
abbrev pub told_name : DebugFault → Option (List ℕ)
told_name Device = None
told_name fault = Some (fault_text fault)

-- what is told of a fault
abbrev pub refused : List ℕ → List ℕ
refused name = concat (codes "refused " ∷ name ∷ codes "\n" ∷ [])

-- a fault is told, and more is wanted; or the put failed, now or before, and that is the end
abbrev pub Refuses : Option (List ℕ) → SinkState → SinkState → Result Bool ConsoleFault → Type 0
Refuses None before after r = (after ≡ before) × (r ≡ Err Unwritten)
Refuses (Some name) before after (Ok more) = Puts before after (refused name) (Ok tt) × (more ≡ true)
Refuses (Some name) before after (Err fault) = (f : SinkFault) × Puts before after (refused name) (Err f) × (fault ≡ Unwritten)

-- what comes of a session's answer: more is wanted, or not, as it says; or its fault is told
abbrev pub Closes : Result Bool DebugFault → SinkState → SinkState → Result Bool ConsoleFault → Type 0
Closes (Ok more) before after r = (after ≡ before) × (r ≡ Ok more)
Closes (Err fault) before after r = Refuses (told_name fault) before after r

-- what a session may answer to a command
abbrev pub Answering : Type 0 → Type 1
Answering D = D → Command → D → SinkState → SinkState → Result Bool DebugFault → Type 0

-- a command is carried out by the session; where there is none, that is told, and the session stays as it is
abbrev pub IsCarriedOut : {D : Type 0} → Answering D → Option Command → D → D → SinkState → SinkState → Result Bool ConsoleFault → Type 0
IsCarriedOut answers None s t before after r = (t ≡ s) × Refuses (told_name Unknown) before after r
IsCarriedOut answers (Some command) s t before after r =
    (answer : Result Bool DebugFault) × (between : SinkState) × answers s command t before between answer
    × Closes answer between after r

-- a line is answered: what it asks for is carried out
abbrev pub IsAnswered : {D : Type 0} → Table → Answering D → List ℕ → D → D → SinkState → SinkState → Result Bool ConsoleFault → Type 0
IsAnswered names answers line s t before after r =
    (asked : Option Command) × Asks names line asked × IsCarriedOut answers asked s t before after r
