-- Lines that are asked for, read and answered, one after the other.
use Rattle.std.specs.Prelude.{ℕ, ◌≡◌, ◌⊎◌, zero, suc, Bool, true, false, List, [], ◌∷◌, Option, Result, Ok, Err}
use Rattle.words.specs.declared.sink.SinkFault.{SinkFault}
use Rattle.words.specs.Sinks.{SinkState}
use Rattle.disassembler.specs.Tables.{Table}
use Rattle.texts.specs.Puts.{Puts}
use Rattle.debugger.specs.declared.input.Reading.{Reading}
use Rattle.debugger.specs.declared.input.Reading.TheVariants.{Line, Last, Failed}
use Rattle.debugger.specs.declared.fault.ConsoleFault.{ConsoleFault}
use Rattle.debugger.specs.declared.fault.ConsoleFault.TheVariants.{Unreadable, Unwritten}
use Rattle.debugger.specs.LineAnswers.{Answering, IsAnswered}

-- where a talk stands: the session and the input, what was told and what was asked
pub record Talk (D I : Type 0) : Type 0 where
  pub session : D
  pub input : I
  pub told : SinkState
  pub asked : SinkState

-- nothing was answered
abbrev pub IsUnanswered : {D : Type 0} → D → D → SinkState → SinkState → Type 0
IsUnanswered s t before after = (t ≡ s) × (after ≡ before)

-- no more is wanted
abbrev pub ended : Result Bool ConsoleFault → Result Bool ConsoleFault
ended (Ok more) = Ok false
ended (Err fault) = Err fault

-- what stands behind the last line feed is answered, if there is anything
abbrev pub EndsWith : {D : Type 0} → Table → Answering D → List ℕ → D → D → SinkState → SinkState → Result Bool ConsoleFault → Type 0
EndsWith names answers [] s t before after r = IsUnanswered s t before after × (r ≡ Ok false)
EndsWith names answers (c ∷ cs) s t before after r =
    (told : Result Bool ConsoleFault) × IsAnswered names answers (c ∷ cs) s t before after told × (r ≡ ended told)

-- what was read is answered
abbrev pub Replies : {D : Type 0} → Table → Answering D → Reading → D → D → SinkState → SinkState → Result Bool ConsoleFault → Type 0
Replies names answers (Line l) s t before after r = IsAnswered names answers l.items s t before after r
Replies names answers (Last l) s t before after r = EndsWith names answers l.items s t before after r
Replies names answers Failed s t before after r = IsUnanswered s t before after × (r ≡ Err Unreadable)

-- what an input may give
abbrev pub Giving : Type 0 → Type 1
Giving I = I → Reading → I → Type 0

-- once a line was asked for, it is read and answered; where it could not be asked for, nothing was done
abbrev pub Hears : {D I : Type 0} → Table → Answering D → Giving I → Result Unit SinkFault → Talk D I → Talk D I → Result Bool ConsoleFault → Type 0
Hears names answers gives (Ok u) v w r = (reading : Reading) × gives v.input reading w.input × Replies names answers reading v.session w.session v.told w.told r
Hears names answers gives (Err f) v w r = (w.input ≡ v.input) × IsUnanswered v.session w.session v.told w.told × (r ≡ Err Unwritten)

-- a line is asked for by the prompt, read and answered
abbrev pub Exchanges : {D I : Type 0} → Table → Answering D → Giving I → List ℕ → Talk D I → Talk D I → Result Bool ConsoleFault → Type 0
Exchanges names answers gives prompt v w r = (put : Result Unit SinkFault) × Puts v.asked w.asked prompt put × Hears names answers gives put v w r

-- so many lines, after each of which more were wanted
abbrev pub Plays : {D I : Type 0} → Table → Answering D → Giving I → List ℕ → ℕ → Talk D I → Talk D I → Type 0
Plays names answers gives prompt zero v w = w ≡ v
Plays names answers gives prompt (suc n) v w = (u : Talk _ _) × Plays names answers gives prompt n v u × Exchanges names answers gives prompt u w (Ok true)

-- how a talk ends: after some lines comes one after which no more is wanted, or there is none; or a fault; or the lines were 2^64 - 1
abbrev pub IsPlayed : {D I : Type 0} → Table → Answering D → Giving I → List ℕ → Talk D I → Talk D I → Result Unit ConsoleFault → Type 0
IsPlayed names answers gives prompt v w (Ok u) = (n : ℕ) × (m : Talk _ _) × Plays names answers gives prompt n v m × Exchanges names answers gives prompt m w (Ok false)
IsPlayed names answers gives prompt v w (Err fault) =
    (n : ℕ) × (m : Talk _ _) × Plays names answers gives prompt n v m
    × (Exchanges names answers gives prompt m w (Err fault) ⊎ ((n ≡ 18446744073709551615) × (fault ≡ Unreadable) × (w ≡ m)))
