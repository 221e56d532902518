-- A request that needs no machine.
use Rattle.std.proofs.Common.{◌≡◌, ℕ, List, Option, None, Result, Ok, Err, MatchResult, refl}
use Rattle.std.specs.Option.{option_map}
use Rattle.words.specs.Sinks.{IsUntouched, SinkState}
use Rattle.command_line.specs.declared.request.Request.{Request}
use Rattle.command_line.specs.declared.request.Request.TheVariants as request
use Rattle.debugger.specs.Plays.{Giving}
use Rattle.protocol.specs.Caches.{Geometry}
use Rattle.requests.specs.FileRequests.{IsMade, IsUnmade, cache_of}
use Rattle.simulate.specs.Carried.{IsDoneOn, IsNotDoneOn}
use Rattle.requests.specs.Outputs.{Sinks}
use Rattle.requests.specs.declared.file_requests.Outcome.{Outcome}
use Rattle.requests.specs.declared.fault.Fault.{Fault}

module _ {I : Type 0} (g : Geometry) (gives : Giving I) (file list prompt : List ℕ) (i : I) (before after : Sinks) (told : SinkState) where
  done : (asked : Request) (status : ℕ) (image : Option (List ℕ)) → cache_of asked ≡ None → IsMade file before after asked status image
      → IsDoneOn g gives file list prompt i i before after told told asked status image
  done (request.Run run) status image none made = absurd made
  done (request.Debug setup) status image none made = absurd made
  done (request.Outcomes search) status image none made = (made, refl, refl)
  done (request.Dis path) status image none made = (made, refl, refl)
  done (request.Asm source target) status image none made = (made, refl, refl)

  undone : (asked : Request) (fault : Fault) → cache_of asked ≡ None → IsUnmade file before after asked fault
      → IsNotDoneOn g file list i i before after asked fault
  undone (request.Run run) fault none unmade = absurd unmade
  undone (request.Debug setup) fault none unmade = absurd unmade
  undone (request.Outcomes search) fault none unmade = (unmade, refl)
  undone (request.Dis path) fault none unmade = (unmade, refl)
  undone (request.Asm source target) fault none unmade = (unmade, refl)

  -- what was made of a file, or was not, is what became of the request
  pub carried : (asked : Request) (r : Result Outcome Fault) → cache_of asked ≡ None
      → MatchResult r (λ o. IsMade file before after asked o.status (option_map (λ image. image.items) o.image)) (IsUnmade file before after asked)
      → MatchResult r (λ o. IsDoneOn g gives file list prompt i i before after told told asked o.status (option_map (λ image. image.items) o.image))
      (λ fault. IsNotDoneOn g file list i i before after asked fault × IsUntouched told told)
  carried asked (Ok o) none made = done asked o.status (option_map (λ image. image.items) o.image) none made
  carried asked (Err fault) none unmade = (undone asked fault none unmade, refl)
