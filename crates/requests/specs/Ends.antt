-- What comes of a search of all ends of a program: what standard output and the file of a run take, and the status.
use Rattle.std.specs.Prelude.{ℕ, zero, suc, ◌≡◌, ◌⊎◌, Bool, cond, List, Option, Some, None, length, slice_get}
use Rattle.std.specs.Borrow.{Bor}
use Rattle.std.specs.List.{flat_map}
use Rattle.words.specs.Sinks.{IsUntouched, SinkState, TookAll, TookPart}
use Rattle.words.specs.declared.entry.Entry.{Entry}
use Rattle.flat.specs.Boots.{boot_fault, booted}
use Rattle.flat.specs.State.{Flat}
use Rattle.flat.specs.declared.boot_fault.BootFault.{BootFault}
use Rattle.loader.specs.Programs.{Program}
use Rattle.table.specs.Program.{AreBytes}
use Rattle.disassembler.specs.Tables.{Table, no_symbols}
use Rattle.render.specs.Entries.{entry_line}
use Rattle.render.specs.Reports.{AllReadable}
use Rattle.isolation.specs.Moves.{Place}
use Rattle.isolation.specs.Walks.{WalksInOrder, entries_of}
use Rattle.outcomes.specs.declared.breadth_first.Outcomes.{Outcomes}
use Rattle.outcomes.specs.declared.pool.State.{State}
use Rattle.outcomes.specs.Searches.{place_at, booted_place, Stands, Finds}
use Rattle.outcomes.specs.declared.gathering.End.{End}
use Rattle.outcomes.specs.Ends.{AreEndsOf}
use Rattle.requests.specs.EndTexts.{ends_text}
use Rattle.command_line.specs.declared.request.Search.{Search}
use Rattle.command_line.specs.declared.request.Witness.{Witness}
use Rattle.command_line.specs.declared.request.Word.{Word}
use Rattle.requests.specs.Runs.{addresses}
use Rattle.requests.specs.Outputs.{Sinks}
use Rattle.requests.specs.Sources.{IsProgramIn, IsProgramFault}
use Rattle.requests.specs.Unreadable.{IsFirstUnreadable}
use Rattle.requests.specs.declared.fault.Fault.{Fault}
use Rattle.requests.specs.declared.fault.Fault.TheVariants as fault

-- ---- the search

-- the flat state that a program begins in, with as many harts and as much memory as is asked for
abbrev pub search_start : Search → Program → Flat
search_start asked p = booted p.segments p.entry asked.harts asked.memory

-- and without a reservation
abbrev pub search_place : Search → Program → Place
search_place asked p = booted_place p.segments p.entry asked.harts asked.memory

-- the file has a program, which begins as is asked, and the words can be shown of it
pub record CanSearch (asked : Search) (file : List ℕ) (p : Program) : Type 0 where
  pub holds : IsProgramIn asked.file.now file p
  pub boots : boot_fault p.segments asked.harts asked.memory ≡ None
  pub bytes : AreBytes p.segments
  pub readable : AllReadable (search_start asked p).setting (addresses asked.words.items)

-- the program in a file was searched: this was found
pub record IsSearched (asked : Search) (file : List ℕ) (o : Outcomes) : Type 0 where
  pub program : Program
  pub can : CanSearch asked file program
  pub found : Finds (search_place asked program) asked.states o

-- the file has a program, which can't be booted as is asked, for this fault
pub record CanNotBoot (asked : Search) (file : List ℕ) (b : BootFault) : Type 0 where
  pub program : Program
  pub holds : IsProgramIn asked.file.now file program
  pub refused : boot_fault program.segments asked.harts asked.memory ≡ Some b

-- the program boots, and the word is the first of those asked for that nothing can be read at
pub record CanNotTell (asked : Search) (file : List ℕ) (k : ℕ) (w : Word) : Type 0 where
  pub program : Program
  pub holds : IsProgramIn asked.file.now file program
  pub boots : boot_fault program.segments asked.harts asked.memory ≡ None
  pub first : IsFirstUnreadable (search_start asked program).setting asked.words.items k w

-- why the program in a file is not searched: there is none, it can't be booted, a word can't be shown, or memory ran out
abbrev pub IsUnsearched : Search → List ℕ → Fault → Type 0
IsUnsearched asked file why = IsProgramFault asked.file.now file why
    ⊎ (((b : BootFault) × CanNotBoot asked file b × (why ≡ fault.Boot b))
    ⊎ (((k : ℕ) × (w : Word) × CanNotTell asked file k w × (why ≡ fault.Word w.text))
    ⊎ (why ≡ fault.NoMemory)))

-- ---- what is put

-- the status: 0 if all ends were found, else 5
abbrev pub search_status : Bool → ℕ
search_status all = cond all 0 5

-- how many states are told: those that were met, if they are all; else the limit
abbrev pub states_told : Search → Outcomes → ℕ
states_told asked o = cond o.is_all (length o.states.keys) asked.states

-- the end with a number, from 1, if there is one
abbrev pub end_numbered : List End → ℕ → Option End
end_numbered ends zero = None
end_numbered ends (suc k) = slice_get ends k

-- the lines of entries, with names
abbrev pub lines_of : Table → List Entry → List ℕ
lines_of names es = flat_map (entry_line names) es

-- the entries are those of a run from the first state of a search to the state at a place
abbrev pub IsRunTo : Outcomes → ℕ → List Entry → Type 0
IsRunTo o k es = (x y : State) → Stands o 0 x → Stands o k y
    → (ess : List (List Entry)) × (es ≡ entries_of ess) × WalksInOrder (place_at o x) ess (place_at o y)

-- the lines of a run to the state at a place were put, without names
abbrev pub IsRunPut : Outcomes → ℕ → SinkState → SinkState → Type 0
IsRunPut o k before after = (es : List Entry) × IsRunTo o k es × TookAll before after (lines_of no_symbols es)

-- or a beginning of them, and the fault names the path; or memory ran out, and nothing was
abbrev pub IsRunUnput : Outcomes → ℕ → Bor (List ℕ) → SinkState → SinkState → Fault → Type 0
IsRunUnput o k path before after why = ((why ≡ fault.Unmade path) × ((es : List Entry) × IsRunTo o k es × TookPart before after (lines_of no_symbols es)))
    ⊎ ((why ≡ fault.NoMemory) × IsUntouched before after)

module _ (o : Outcomes) (ends : List End) (before after : SinkState) where
  -- the file took the lines of a run to the end that is asked for, if one is
  abbrev pub IsWitnessed : Option Witness → Type 0
  IsWitnessed None = IsUntouched before after
  IsWitnessed (Some w) = (e : End) × (end_numbered ends w.outcome ≡ Some e) × IsRunPut o e.place before after

  -- why not: no end has this number, and it took nothing; or not all lines could be put
  abbrev pub IsUnwitnessed : Option Witness → Fault → Type 0
  IsUnwitnessed None why = ⊥
  IsUnwitnessed (Some w) why = ((end_numbered ends w.outcome ≡ None) × (why ≡ fault.NoOutcome w.outcome) × IsUntouched before after)
      ⊎ ((e : End) × (end_numbered ends w.outcome ≡ Some e) × IsRunUnput o e.place w.path before after why)

-- what is put of all that a search found
module _ (asked : Search) (o : Outcomes) (before after : Sinks) where
  -- each end's report, behind its number, and how many there are; and the file took the run that is asked for
  abbrev pub AreEndsTold : ℕ → Type 0
  AreEndsTold status = (ends : List End) × AreEndsOf o (addresses asked.words.items) ends
      × (status ≡ search_status o.is_all)
      × TookAll before.output after.output (ends_text ends (states_told asked o) o.is_all)
      × IsWitnessed o ends before.file after.file asked.witness

  -- why not: memory ran out before the ends were there, or the run that is asked for could not be put, and standard output took nothing; or it took a beginning
  abbrev pub AreEndsUntold : Fault → Type 0
  AreEndsUntold why = ((why ≡ fault.NoMemory) × IsUntouched before.file after.file × IsUntouched before.output after.output)
      ⊎ ((ends : List End) × AreEndsOf o (addresses asked.words.items) ends
      × ((IsUnwitnessed o ends before.file after.file asked.witness why × IsUntouched before.output after.output)
      ⊎ ((why ≡ fault.Unwritten) × TookPart before.output after.output (ends_text ends (states_told asked o) o.is_all)
      × IsWitnessed o ends before.file after.file asked.witness)))

module _ (asked : Search) (file : List ℕ) (before after : Sinks) where
  -- the program in a file was searched, and what was found was put
  abbrev pub AreEndsGiven : ℕ → Type 0
  AreEndsGiven status = (o : Outcomes) × IsSearched asked file o × AreEndsTold asked o before after status

  -- why not: there was no search, and nothing was put; or not all of what it found
  abbrev pub AreEndsNotGiven : Fault → Type 0
  AreEndsNotGiven why = (IsUnsearched asked file why × IsUntouched before.file after.file × IsUntouched before.output after.output)
      ⊎ ((o : Outcomes) × IsSearched asked file o × AreEndsUntold asked o before after why)
