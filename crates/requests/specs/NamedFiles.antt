-- The files that a request names: which they are, and how they are read and made.
use Rattle.std.specs.Prelude.{ℕ, ◌≡◌, ◌<◌, ◌≤◌, ◌+◌, ◌⊎◌, Bool, true, false, IfSome, IsOk, List, [], length, Option, Some, None, Result, Ok, Err}
use Rattle.std.specs.Borrow.{Bor}
use Rattle.words.specs.Sinks.{SinkState, TookAll, TookPart}
use Rattle.words.specs.declared.sink.SinkFault.{SinkFault}
use Rattle.command_line.specs.declared.request.Request.{Request}
use Rattle.command_line.specs.declared.request.Request.TheVariants as request
use Rattle.command_line.specs.declared.request.Show.{Show}
use Rattle.command_line.specs.declared.request.Show.TheVariants.{View}
use Rattle.command_line.specs.declared.request.Way.{Way}
use Rattle.command_line.specs.declared.request.Way.TheVariants as way
use Rattle.command_line.specs.declared.request.Witness.{Witness}
use Rattle.requests.specs.declared.fault.Fault.{Fault}
use Rattle.requests.specs.declared.fault.Fault.TheVariants.{Overwrites, Unread, TooLong, Unmade, NoMemory}
use Rattle.requests.specs.declared.page.Sheet.{Sheet}
use Rattle.requests.specs.declared.page.Sheet.TheVariants.{Nowhere, Made}

-- that which a request reads: a program's, or a source's
abbrev pub file_of : Request → Bor (List ℕ)
file_of (request.Run run) = run.setup.file
file_of (request.Debug setup) = setup.file
file_of (request.Outcomes asked) = asked.file
file_of (request.Dis path) = path
file_of (request.Asm source target) = source

abbrev pub schedule_in : Way → Option (Bor (List ℕ))
schedule_in (way.Turns schedule show) = schedule
schedule_in (way.Chance schedule chance show) = schedule
schedule_in (way.Kept schedule chance history print) = schedule
schedule_in (way.Threads history) = None

-- that of a schedule, if it names one
abbrev pub schedule_of : Request → Option (Bor (List ℕ))
schedule_of (request.Run run) = schedule_in run.way
schedule_of other = None

abbrev pub view_in : Show → Option (Bor (List ℕ))
view_in (View view path) = Some path
view_in other = None

abbrev pub page_in : Way → Option (Bor (List ℕ))
page_in (way.Turns schedule show) = view_in show
page_in (way.Chance schedule chance show) = view_in show
page_in (way.Kept schedule chance history print) = Some history
page_in (way.Threads history) = history

abbrev pub witness_in : Option Witness → Option (Bor (List ℕ))
witness_in None = None
witness_in (Some w) = Some w.path

-- that of a view, a history or a run to an outcome, if one is to be made
abbrev pub page_of : Request → Option (Bor (List ℕ))
page_of (request.Run run) = page_in run.way
page_of (request.Outcomes asked) = witness_in asked.witness
page_of other = None

-- that which it makes, if it makes one: one of these, or the ELF file of a source
abbrev pub target_of : Request → Option (Bor (List ℕ))
target_of (request.Asm source target) = Some target
target_of other = page_of other

module _ {S : Type 0} (joins : S → List ℕ → List ℕ → Bool → Type 0) (s : S) where
  -- asked whether a path leads to the same file as another, which may not be there, the store says no
  abbrev pub IsApart : List ℕ → Option (Bor (List ℕ)) → Type 0
  IsApart path None = Unit {0}
  IsApart path (Some other) = joins s path other.now false

  -- or it says yes
  abbrev pub IsOne : List ℕ → Option (Bor (List ℕ)) → Type 0
  IsOne path None = ⊥
  IsOne path (Some other) = joins s path other.now true

  -- what a request makes is none of the files that it reads
  abbrev pub SparesInputs : Request → Type 0
  SparesInputs request = IfSome (target_of request) (λ path. IsApart path.now (Some (file_of request)) × IsApart path.now (schedule_of request))

  -- or it is one of them, which is why it isn't made
  abbrev pub IsOverwriting : Request → Fault → Type 0
  IsOverwriting request fault = (path : Bor (List ℕ)) × (target_of request ≡ Some path) × (fault ≡ Overwrites path)
      × (IsOne path.now (Some (file_of request)) ⊎ IsOne path.now (schedule_of request))

-- a file has at most so many bytes: 32 MiB
abbrev pub most_bytes : ℕ
most_bytes = 33554432

module _ {S : Type 0} (reads : S → List ℕ → ℕ → List ℕ → Type 0) (refuses : S → List ℕ → Type 0) (s : S) where
  -- the file with this path has these bytes
  abbrev pub IsReadAt : List ℕ → List ℕ → Type 0
  IsReadAt path bytes = reads s path (most_bytes + 1) bytes × (length bytes ≤ most_bytes)

  -- why it isn't read: it can't be, or it is too long. Nothing is said of when memory runs out
  abbrev pub IsUnreadAt : Bor (List ℕ) → Fault → Type 0
  IsUnreadAt path (Unread at) = (at ≡ path) × refuses s path.now
  IsUnreadAt path (TooLong at) = (at ≡ path) × ((bytes : List ℕ) × reads s path.now (most_bytes + 1) bytes × (most_bytes < length bytes))
  IsUnreadAt path NoMemory = Unit {0}
  IsUnreadAt path other = ⊥

  -- the same of a file that may not be asked for: then there are no bytes
  abbrev pub IsReadIf : Option (Bor (List ℕ)) → List ℕ → Type 0
  IsReadIf None bytes = bytes ≡ []
  IsReadIf (Some path) bytes = IsReadAt path.now bytes

  abbrev pub IsUnreadIf : Option (Bor (List ℕ)) → Fault → Type 0
  IsUnreadIf None fault = ⊥
  IsUnreadIf (Some path) fault = IsUnreadAt path fault

-- why a file isn't begun: it can't be made. Nothing is said of when memory runs out
abbrev pub IsUnbegunAt : {S : Type 0} → (S → List ℕ → Type 0) → S → Bor (List ℕ) → Fault → Type 0
IsUnbegunAt refuses s path (Unmade at) = (at ≡ path) × refuses s path.now
IsUnbegunAt refuses s path NoMemory = Unit {0}
IsUnbegunAt refuses s path other = ⊥

-- the same of a file that may not be asked for
abbrev pub IsUnbegunIf : {S : Type 0} → (S → List ℕ → Type 0) → S → Option (Bor (List ℕ)) → Fault → Type 0
IsUnbegunIf refuses s None fault = ⊥
IsUnbegunIf refuses s (Some path) fault = IsUnbegunAt refuses s path fault

module _ {S P : Type 0} (begins : S → List ℕ → S → P → Type 0) (ends : S → P → Result Unit SinkFault → S → Type 0) (state : P → SinkState) where
  -- a file was begun, where one is asked for
  abbrev pub IsSheetFor : Option (Bor (List ℕ)) → S → S → Sheet P → Type 0
  IsSheetFor None s t sheet = (t ≡ s) × (sheet ≡ Nowhere)
  IsSheetFor (Some path) s t sheet = (page : P) × begins s path.now t page × (sheet ≡ Made page)

  -- where one was begun it is done, and what it kept back was written out
  abbrev pub IsClosed : Option (Bor (List ℕ)) → S → Sheet P → S → Type 0
  IsClosed None s sheet t = t ≡ s
  IsClosed (Some path) s Nowhere t = t ≡ s
  IsClosed (Some path) s (Made page) t = ends s page (Ok tt) t

  -- or that failed: the fault names its path
  abbrev pub IsUnclosed : Option (Bor (List ℕ)) → S → Sheet P → Fault → S → Type 0
  IsUnclosed None s sheet fault t = ⊥
  IsUnclosed (Some path) s Nowhere fault t = ⊥
  IsUnclosed (Some path) s (Made page) fault t = (fault ≡ Unmade path) × ((failed : SinkFault) × ends s page (Err failed) t)

  -- a file with this path was made of these bytes
  pub record IsFileMade (path bytes : List ℕ) (s t : S) : Type 0 where
    pub opened : S
    pub page : P
    pub begun : begins s path opened page
    pub left : P
    pub took : TookAll (state page) (state left) bytes
    pub done : ends opened left (Ok tt) t

  -- or not whole: a put of them failed, or what was kept back could not be written out
  pub record IsFileCut (path bytes : List ℕ) (s t : S) : Type 0 where
    pub opened : S
    pub page : P
    pub begun : begins s path opened page
    pub left : P
    pub result : Result Unit SinkFault
    pub took : TookPart (state page) (state left) bytes ⊎ (TookAll (state page) (state left) bytes × (IsOk result → ⊥))
    pub done : ends opened left result t

module _ {S P : Type 0} (refuses : S → List ℕ → Type 0) (begins : S → List ℕ → S → P → Type 0) (ends : S → P → Result Unit SinkFault → S → Type 0) (state : P → SinkState) where
  -- why a file of these bytes wasn't made: it couldn't be begun, or not all of them were written
  abbrev pub IsFileUnmade : Bor (List ℕ) → List ℕ → S → Fault → S → Type 0
  IsFileUnmade path bytes s fault t = (IsUnbegunAt refuses s path fault × (t ≡ s)) ⊎ ((fault ≡ Unmade path) × IsFileCut begins ends state path.now bytes s t)

  -- the file that a request asks for was made, if it asks for one
  abbrev pub IsImageMade : Request → Option (List ℕ) → S → S → Type 0
  IsImageMade (request.Asm source target) (Some bytes) s t = IsFileMade begins ends state target.now bytes s t
  IsImageMade other image s t = t ≡ s

  -- or it was not
  abbrev pub IsImageUnmade : Request → Option (List ℕ) → S → Fault → S → Type 0
  IsImageUnmade (request.Asm source target) (Some bytes) s fault t = IsFileUnmade target bytes s fault t
  IsImageUnmade other image s fault t = ⊥
