-- What comes of the words of a command line: what is read and made of files, put into standard output and told, and the status.
use Rattle.std.specs.Prelude.{ℕ, ◌≡◌, ◌⊎◌, Bool, List, [], Option, Result}
use Rattle.words.specs.Sinks.{IsPut, SinkState, TookAll, TookPart}
use Rattle.words.specs.declared.sink.SinkFault.{SinkFault}
use Rattle.command_line.specs.Reading.{IsRequestOf, IsFaultOf}
use Rattle.command_line.specs.declared.fault.OrderFault.{OrderFault}
use Rattle.command_line.specs.declared.request.Request.{Request}
use Rattle.command_line.specs.declared.request.Request.TheVariants as request
use Rattle.debugger.specs.Plays.{Giving}
use Rattle.render.specs.Statuses.{IsReported}
use Rattle.simulate.specs.Carried.{IsCarriedOut}
use Rattle.requests.specs.Begins.{CanShow, IsUnready}
use Rattle.requests.specs.Faults.{fault_status, fault_text, of_order}
use Rattle.requests.specs.NamedFiles.{file_of, schedule_of, page_of, SparesInputs, IsOverwriting, IsReadAt, IsUnreadAt, IsReadIf, IsUnreadIf, IsUnbegunIf, IsSheetFor, IsClosed, IsUnclosed, IsImageMade, IsImageUnmade}
use Rattle.requests.specs.Sheets.{state_of}
use Rattle.requests.specs.declared.fault.Fault.{Fault}
use Rattle.requests.specs.declared.fault.Fault.TheVariants.{Asked, Unwritten}
use Rattle.requests.specs.declared.page.Sheet.{Sheet}

-- what there is around the program: the files, the input, standard output, and where the user is told of faults
pub record World (S I : Type 0) : Type 0 where
  pub store : S
  pub input : I
  pub output : SinkState
  pub error : SinkState

-- what standard output kept back was written out; or a put failed, behind a status that is no report's
abbrev pub IsWritten : ℕ → SinkState → SinkState → Type 0
IsWritten status before after = TookAll before after [] ⊎ (TookPart before after [] × (IsReported status → ⊥))

abbrev pub IsWrittenOut : {S I : Type 0} → World S I → ℕ → World S I → Type 0
IsWrittenOut v status w = IsWritten status v.output w.output × (w ≡ record v { output = w.output })

-- of a request that has a schedule: why its run couldn't begin even if the schedule were read; or nothing but the schedule is wrong
abbrev pub IsUnreadyOf : Request → List ℕ → Fault → Type 0
IsUnreadyOf (request.Run run) file why = IsUnready run file why
IsUnreadyOf other file why = ⊥

abbrev pub IsReadyOf : Request → List ℕ → Type 0
IsReadyOf (request.Run run) file = CanShow run file
IsReadyOf other file = Unit {0}

-- the user is told of a fault, and the status is the fault's
abbrev pub IsTold : Fault → SinkState → ℕ → SinkState → Type 0
IsTold fault before status after = (status ≡ fault_status fault) × IsPut before after (fault_text fault)

-- standard output takes a text, with status 0; or it can't be written, which the user is told
abbrev pub IsPrinted : List ℕ → SinkState → SinkState → ℕ → SinkState → SinkState → Type 0
IsPrinted text output error status printed told = ((status ≡ 0) × TookAll output printed text × (told ≡ error)) ⊎ (TookPart output printed text × IsTold Unwritten error status told)

-- help or the version, which was asked for, is printed; the user is told of any other fault
abbrev pub IsSaid : Fault → SinkState → SinkState → ℕ → SinkState → SinkState → Type 0
IsSaid (Asked text) output error status printed told = IsPrinted (fault_text (Asked text)) output error status printed told
IsSaid fault output error status printed told = IsTold fault error status told × (printed ≡ output)

module _ {S I P : Type 0} (joins : S → List ℕ → List ℕ → Bool → Type 0) (reads : S → List ℕ → ℕ → List ℕ → Type 0) (refuses : S → List ℕ → Type 0) (begins : S → List ℕ → S → P → Type 0) (ends : S → P → Result Unit SinkFault → S → Type 0)
    (state : P → SinkState) (gives : Giving I) (prompt : List ℕ) where
  module _ (request : Request) (file list : List ℕ) where
    -- it was carried out, with the file of a view, a history or a run begun before; this is that file as it was left
    abbrev pub IsCarriedTo : World S I → ℕ → Option (List ℕ) → S → Sheet P → World S I → Type 0
    IsCarriedTo v status image opened left w = (sheet : Sheet P) × IsSheetFor begins ends state (page_of request) v.store opened sheet
        × IsCarriedOut gives file list prompt v.input w.input (record { output = v.output; file = state_of state sheet }) (record { output = w.output; file = state_of state left })
        v.error w.error request status image

    -- and the file was written out, unless the status is no report's
    abbrev pub IsCarried : World S I → ℕ → Option (List ℕ) → World S I → Type 0
    IsCarried v status image w = (opened : S) × (left : Sheet P) × IsCarriedTo v status image opened left w
        × (IsClosed begins ends state (page_of request) opened left w.store
        ⊎ ((fault : Fault) × IsUnclosed begins ends state (page_of request) opened left fault w.store × (IsReported status → ⊥)))

    -- or it could not be written out after a report
    abbrev pub IsUnfinished : World S I → Fault → World S I → Type 0
    IsUnfinished v fault w = (status : ℕ) × (image : Option (List ℕ)) × (opened : S) × (left : Sheet P) × IsCarriedTo v status image opened left w
        × IsUnclosed begins ends state (page_of request) opened left fault w.store × IsReported status

    -- all was made, with this status
    abbrev pub IsMadeOf : World S I → ℕ → World S I → Type 0
    IsMadeOf v status w = (image : Option (List ℕ)) × (u x : World S I) × IsCarried v status image u × IsWrittenOut u status x
        × IsImageMade refuses begins ends state request image x.store w.store × (w ≡ record x { store = w.store })

    -- or not: a file couldn't be begun, and nothing was made; or it couldn't be written out after a report; or standard output could not be written behind a report; or the file that is asked for could not be made
    abbrev pub IsUnmadeOf : World S I → Fault → World S I → Type 0
    IsUnmadeOf v fault w = (IsUnbegunIf refuses v.store (page_of request) fault × (w ≡ v))
        ⊎ (IsUnfinished v fault w
        ⊎ ((status : ℕ) × (image : Option (List ℕ)) × (u : World S I) × IsCarried v status image u
        × (((fault ≡ Unwritten) × IsReported status × TookPart u.output w.output [] × (w ≡ record u { output = w.output }))
        ⊎ ((x : World S I) × IsWrittenOut u status x × IsImageUnmade refuses begins ends state request image x.store fault w.store × (w ≡ record x { store = w.store })))))

  -- the user is told why a run couldn't begin even if its schedule were read, and the status is that fault's
  abbrev pub IsToldUnready : Request → List ℕ → World S I → ℕ → World S I → Type 0
  IsToldUnready request file v status w = (why : Fault) × IsUnreadyOf request file why × (status ≡ fault_status why) × IsPut v.error w.error (fault_text why) × (w ≡ record v { error = w.error })

  -- the files that it names were read, its schedule behind its file, and then it was made; or its schedule wasn't read, and the user is told what is wrong before it
  abbrev pub IsServed : Request → World S I → ℕ → World S I → Type 0
  IsServed request v status w = (file : List ℕ) × IsReadAt reads refuses v.store (file_of request).now file
      × (((list : List ℕ) × IsReadIf reads refuses v.store (schedule_of request) list × IsMadeOf request file list v status w)
      ⊎ ((unread : Fault) × IsUnreadIf reads refuses v.store (schedule_of request) unread × IsToldUnready request file v status w))

  -- or why not: its file wasn't read; or only its schedule wasn't; or it couldn't be made
  abbrev pub IsUnserved : Request → World S I → Fault → World S I → Type 0
  IsUnserved request v fault w = (IsUnreadAt reads refuses v.store (file_of request) fault × (w ≡ v))
      ⊎ ((file : List ℕ) × IsReadAt reads refuses v.store (file_of request).now file
      × ((IsUnreadIf reads refuses v.store (schedule_of request) fault × IsReadyOf request file × (w ≡ v))
      ⊎ ((list : List ℕ) × IsReadIf reads refuses v.store (schedule_of request) list × IsUnmadeOf request file list v fault w)))

  -- the words say a request, which makes none of the files that it reads, and it was served; or why nothing was
  abbrev pub IsObeyed : List (List ℕ) → World S I → ℕ → World S I → Type 0
  IsObeyed words v status w = (request : Request) × IsRequestOf words request × SparesInputs joins v.store request × IsServed request v status w

  abbrev pub IsDisobeyed : List (List ℕ) → World S I → Fault → World S I → Type 0
  IsDisobeyed words v fault w = ((order : OrderFault) × IsFaultOf words order × (fault ≡ of_order order) × (w ≡ v))
      ⊎ ((request : Request) × IsRequestOf words request
      × ((IsOverwriting joins v.store request fault × (w ≡ v)) ⊎ (SparesInputs joins v.store request × IsUnserved request v fault w)))

  -- The words were answered: what they ask for was done, with this status; or why it was not is said.
  abbrev pub IsAnswered : List (List ℕ) → World S I → ℕ → World S I → Type 0
  IsAnswered words v status w = IsObeyed words v status w ⊎ ((fault : Fault) × (u : World S I) × IsDisobeyed words v fault u × IsSaid fault u.output u.error status w.output w.error
      × (w ≡ record u { output = w.output; error = w.error }))
