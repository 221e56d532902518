-- What stands behind the last line feed.
use Rattle.std.proofs.Common.{◌≢◌, ℕ, Bool, List, [], ◌∷◌, Option, Result, length, refl}
use Rattle.words.specs.Sinks.{SinkState}
use Rattle.disassembler.specs.Tables.{Table}
use Rattle.debugger.specs.declared.fault.ConsoleFault.{ConsoleFault}
use Rattle.debugger.specs.LineAnswers.{Answering, IsAnswered}
use Rattle.debugger.specs.Plays.{EndsWith, ended}

-- there is something, which is answered
pub ends_with : {D : Type 0} (names : Table) (answers : Answering D) (line : List ℕ) (s t : D) (before after : SinkState) (told : Result Bool ConsoleFault)
    → length line ≢ 0 → IsAnswered names answers line s t before after told → EndsWith names answers line s t before after (ended told)
ends_with names answers [] s t before after told some is = absurd (some refl)
ends_with names answers (c ∷ cs) s t before after told some is = (told, is, refl)
