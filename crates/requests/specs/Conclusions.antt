-- How a run is concluded: by the report on the machine that it leads to, and a status.
use Rattle.std.specs.Borrow.{Bor}
use Rattle.std.specs.Prelude.{ℕ, ◌≡◌, ◌⊎◌, List}
use Rattle.words.specs.Sinks.{IsUntouched, SinkState, TookAll, TookPart}
use Rattle.flat.specs.State.{Flat}
use Rattle.protocol.specs.Caches.{Geometry}
use Rattle.isolation.specs.Belongs.{Belongs}
use Rattle.machine.specs.States.{State, shown}
use Rattle.render.specs.Reports.{report_of}
use Rattle.render.specs.Statuses.{IsReported, IsStatusOf}
use Rattle.requests.specs.declared.fault.Fault.{Fault}
use Rattle.requests.specs.declared.fault.Fault.TheVariants.{Unmade, Unwritten}

-- the report on a machine was put, with the words at these addresses, and the status goes with it
abbrev pub IsConcluded : Geometry → State → List ℕ → SinkState → SinkState → ℕ → Type 0
IsConcluded g m addrs before after status = IsReported status
    × ((f : Flat) → Belongs g f (shown g.sets m) → IsStatusOf f status × TookAll before after (report_of f addrs))

-- or a beginning of it
abbrev pub IsHalfConcluded : Geometry → State → List ℕ → SinkState → SinkState → Fault → Type 0
IsHalfConcluded g m addrs before after fault = (fault ≡ Unwritten)
    × ((f : Flat) → Belongs g f (shown g.sets m) → (status : ℕ) × IsStatusOf f status × TookPart before after (report_of f addrs))

-- a history was not put whole, or not written out: the fault names its path
abbrev pub IsHistoryUnput : List ℕ → Bor (List ℕ) → SinkState → SinkState → Fault → Type 0
IsHistoryUnput text path before after fault = (fault ≡ Unmade path) × TookPart before after text

-- so it was, and nothing was put of the report on a machine; or a put of that failed, behind the whole history
abbrev pub IsHalfPut : Geometry → State → List ℕ → List ℕ → Bor (List ℕ) → SinkState → SinkState → SinkState → SinkState → Fault → Type 0
IsHalfPut g m words text path kept_before kept_after before after fault =
    (IsHistoryUnput text path kept_before kept_after fault × IsUntouched before after)
    ⊎ (TookAll kept_before kept_after text × IsHalfConcluded g m words before after fault)
