-- What becomes of a request, given the bytes of the files that it reads.
use Rattle.std.specs.Prelude.{ℕ, ◌≡◌, ◌⊎◌, List, Option, None}
use Rattle.words.specs.Sinks.{IsPut, IsUntouched, SinkState}
use Rattle.std.specs.Option.{option_map_or}
use Rattle.command_line.specs.declared.request.Cache.TheVariants.{Small}
use Rattle.command_line.specs.declared.request.Request.{Request}
use Rattle.command_line.specs.declared.request.Request.TheVariants as request
use Rattle.command_line.specs.declared.request.Run.{Run}
use Rattle.command_line.specs.declared.request.Way.{Way}
use Rattle.command_line.specs.declared.request.Way.TheVariants.{Turns, Kept, Threads}
use Rattle.command_line.specs.declared.request.Way.TheVariants as way
use Rattle.debugger.specs.Plays.{Giving}
use Rattle.protocol.specs.Caches.{Geometry}
use Rattle.debugger.specs.Debugging.{answers}
use Rattle.simulate.specs.Debugging.{IsPlayedByHand}
use Rattle.requests.specs.Faults.{fault_status, fault_text}
use Rattle.requests.specs.FileRequests.{IsMade, IsUnmade, cache_of}
use Rattle.schedule.specs.Courses as behind
use Rattle.simulate.specs.Given.{IsGiven, IsNotGiven}
use Rattle.simulate.specs.Kept.{IsGivenAndKept, IsNotGivenOrKept}
use Rattle.simulate.specs.Orders.{geometry_of}
use Rattle.requests.specs.Outputs.{Sinks, AreUntouched}
use Rattle.requests.specs.Starts.{IsStartFault}
use Rattle.simulate.specs.Threaded.{IsGivenInThreads, IsNotGivenInThreads}
use Rattle.requests.specs.declared.fault.Fault.{Fault}

-- a run gave all its texts, or it did not, for a fault
module _ (g : Geometry) (run : Run) (file list : List ℕ) (before after : Sinks) where
  abbrev pub RunGives : Way → ℕ → Type 0
  RunGives (Turns schedule show) status = IsGiven g run behind.Turns show file list before after status
  RunGives (way.Chance schedule chance show) status = IsGiven g run (behind.Chance None) show file list before after status
  RunGives (Kept schedule chance path print) status = IsGivenAndKept g run print path file list before after status
  RunGives (Threads history) status = IsGivenInThreads g run history file before after status

  abbrev pub RunFails : Way → Fault → Type 0
  RunFails (Turns schedule show) fault = IsNotGiven g run behind.Turns show file list before after fault
  RunFails (way.Chance schedule chance show) fault = IsNotGiven g run (behind.Chance None) show file list before after fault
  RunFails (Kept schedule chance path print) fault = IsNotGivenOrKept g run print path file list before after fault
  RunFails (Threads history) fault = IsNotGivenInThreads g run history file before after fault

-- the request was carried out, where the caches are as large as this, with this status, and these bytes for the file that it asks for
module _ {I : Type 0} (g : Geometry) (gives : Giving I) (file list prompt : List ℕ) (i j : I) (before after : Sinks) (told_before told_after : SinkState) where
  abbrev pub IsDoneOn : Request → ℕ → Option (List ℕ) → Type 0
  IsDoneOn (request.Run run) status image = RunGives g run file list before after run.way status × (image ≡ None) × (j ≡ i) × IsUntouched told_before told_after
  IsDoneOn (request.Debug setup) status image =
      IsPlayedByHand answers g gives setup file prompt i j before.output after.output told_before told_after status × (image ≡ None) × IsUntouched before.file after.file
  IsDoneOn made status image = IsMade file before after made status image × (j ≡ i) × IsUntouched told_before told_after

-- it was not, for this fault
module _ {I : Type 0} (g : Geometry) (file list : List ℕ) (i j : I) (before after : Sinks) where
  abbrev pub IsNotDoneOn : Request → Fault → Type 0
  IsNotDoneOn (request.Run run) fault = RunFails g run file list before after run.way fault × (j ≡ i)
  IsNotDoneOn (request.Debug setup) fault = IsStartFault setup file fault × (j ≡ i) × AreUntouched before after
  IsNotDoneOn made fault = IsUnmade file before after made fault × (j ≡ i)

-- the caches that a request asks for. One that needs no machine has any
abbrev pub asked_for : Request → Geometry
asked_for request = option_map_or geometry_of (cache_of request) (geometry_of Small)

module _ {I : Type 0} (gives : Giving I) (file list prompt : List ℕ) (i j : I) (before after : Sinks) (told_before told_after : SinkState) where
  -- the request was carried out; or the user is told of the fault for which it was not, and the status is the fault's
  abbrev pub IsCarriedOut : Request → ℕ → Option (List ℕ) → Type 0
  IsCarriedOut request status image = IsDoneOn (asked_for request) gives file list prompt i j before after told_before told_after request status image
      ⊎ ((fault : Fault) × IsNotDoneOn (asked_for request) file list i j before after request fault × (status ≡ fault_status fault) × (image ≡ None) × IsPut told_before told_after (fault_text fault))
