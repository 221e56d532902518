-- A program that is played by hand.
use Rattle.std.specs.Prelude.{ℕ, ◌≡◌, List, [], Result, Ok, Err, codes}
use Rattle.words.specs.Sinks.{IsPut, IsUntouched, SinkState}
use Rattle.disassembler.specs.Tables.{Table}
use Rattle.protocol.specs.Caches.{Geometry}
use Rattle.machine.specs.States.{State}
use Rattle.command_line.specs.declared.request.Setup.{Setup}
use Rattle.debugger.specs.declared.fault.ConsoleFault.{ConsoleFault}
use Rattle.debugger.specs.declared.fault.ConsoleFault.TheVariants.{Unreadable, Unwritten}
use Rattle.debugger.specs.LineAnswers.{Answering}
use Rattle.debugger.specs.Plays.{Giving}
use Rattle.debugger.specs.Sessions.{Session}
use Rattle.debugger.specs.Debugging.{IsDebugged}
use Rattle.requests.specs.Faults.{line}
use Rattle.requests.specs.Sources.{names_in}
use Rattle.requests.specs.Starts.{IsStartOf}

-- what the user is told where a line could not be read, or a text not be put
abbrev pub end_text : ConsoleFault → List ℕ
end_text Unreadable = line (codes "cannot read standard input") []
end_text Unwritten = line (codes "cannot write standard output") []

-- where a session has come to its end, nothing is told, and the status is 0; else the user is told why, and it is 3
abbrev pub TellsEnd : Result Unit ConsoleFault → SinkState → SinkState → ℕ → Type 0
TellsEnd (Ok done) before after status = IsUntouched before after × (status ≡ 0)
TellsEnd (Err fault) before after status = IsPut before after (end_text fault) × (status ≡ 3)

-- the file has a program, which boots as asked; with the file's names a session of the machine that it begins in, which answers commands so, answers the lines of the input, and asks for each by the prompt; and its end is told
pub record IsPlayedByHand {I : Type 0} (answering : Geometry → Table → Answering Session) (g : Geometry) (gives : Giving I) (setup : Setup) (file prompt : List ℕ) (i j : I) (told_before told_after asked_before asked_after : SinkState) (status : ℕ) : Type 0 where
  pub first : State
  pub starts : IsStartOf g setup file first
  pub end : Result Unit ConsoleFault
  pub asked : SinkState
  pub played : IsDebugged (answering g (names_in setup.file.now file)) (names_in setup.file.now file) gives first prompt i j told_before told_after asked_before asked end
  pub told : TellsEnd end asked asked_after status
