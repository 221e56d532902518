-- Answers of a session to which no memory is wanting.
use Rattle.std.specs.Prelude.{ℕ, ◌≢◌, List, Option, Err}
use Rattle.disassembler.specs.Tables.{Table}
use Rattle.protocol.specs.Caches.{Geometry}
use Rattle.debugger.specs.declared.commands.fault.DebugFault.TheVariants.{NoMemory}
use Rattle.debugger.specs.Sessions.{Session}
use Rattle.debugger.specs.Debugging.{answers}
use Rattle.debugger.specs.declared.input.Reading.{Reading}
use Rattle.debugger.specs.LineAnswers.{Answering}
use Rattle.debugger.specs.Lines.{Gives}
use Rattle.debugger.specs.Plays.{Giving}

-- a command is answered, not for want of memory
abbrev pub answers_surely : Geometry → Table → Answering Session
answers_surely g names s command t before after answer = answers g names s command t before after answer × (answer ≢ Err NoMemory)

-- what an input gives is read of bytes that are told
abbrev pub AreKnown : {I : Type 0} → Giving I → (I → Option (List ℕ)) → Type 0
AreKnown {I} gives bytes = (i : I) (r : Reading) (j : I) → gives i r j → Gives (bytes i) r (bytes j)
