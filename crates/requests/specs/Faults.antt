-- What the user is told of a fault, and the status that it ends the program with.
use Rattle.std.specs.Prelude.{ℕ, List, [], ◌∷◌, ◌++◌, codes, decimal, string_bytes}
use Rattle.std.specs.List.{concat}
use Rattle.std.specs.Option.{option_map}
use Rattle.command_line.specs.declared.fault.OrderFault.{OrderFault}
use Rattle.command_line.specs.declared.fault.OrderFault.TheVariants as order
use Rattle.loader.specs.declared.fault.LoadFault.{LoadFault}
use Rattle.loader.specs.declared.fault.LoadFault.TheVariants as load
use Rattle.loader.specs.Faults.{fault_number, fault_name}
use Rattle.flat.specs.declared.boot_fault.BootFault.{BootFault}
use Rattle.flat.specs.declared.boot_fault.BootFault.TheVariants as boot
use Rattle.flat.specs.BootFaults.{boot_fault_number, boot_fault_name}
use Rattle.statements.specs.Faults.{fault_number as asm_number, fault_name as asm_name}
use Rattle.schedule.specs.declared.lines.ScheduleFault.{ScheduleFault}
use Rattle.schedule.specs.declared.lines.ScheduleFault.TheVariants as schedule
use Rattle.schedule.specs.declared.halt.Halt.{Halt}
use Rattle.schedule.specs.declared.halt.Halt.TheVariants as halt
use Rattle.requests.specs.Hints.{hint_of}
use Rattle.requests.specs.Quotes.{quotation}
use Rattle.render.specs.Reports.{line_end}
use Rattle.requests.specs.declared.fault.Fault.{Fault}
use Rattle.requests.specs.declared.fault.RefusedLine.{RefusedLine}
use Rattle.requests.specs.declared.fault.Fault.TheVariants.{NotText, Asked, Refused, Value, TwoViews, LongPicture, LongPage, ThreadsAlone, MixAlone, TwoFiles, Overwrites, Unread, TooLong, NotSource, Source, Load, Boot, Word, NotSchedule, Schedule, NoOutcome, Exchanged, Unwritten, Unmade, NoMemory}

-- 0 for what clap was asked for, 2 for the command line, a schedule and an outcome that there isn't, 3 for a file, 4 for what is in the file and for the machine that is asked for, 6 if memory ran out, 7 where the lock gave back
-- another board
abbrev pub fault_status : Fault → ℕ
fault_status NotText = 2
fault_status (Asked text) = 0
fault_status (Refused text) = 2
fault_status (Value argument text) = 2
fault_status TwoViews = 2
fault_status LongPicture = 2
fault_status LongPage = 2
fault_status ThreadsAlone = 2
fault_status MixAlone = 2
fault_status TwoFiles = 2
fault_status (Overwrites file) = 2
fault_status (Unread file) = 3
fault_status (TooLong file) = 3
fault_status NotSource = 4
fault_status (Source refused) = 4
fault_status (Load fault) = 4
fault_status (Boot fault) = 4
fault_status (Word text) = 2
fault_status NotSchedule = 2
fault_status (Schedule number) = 2
fault_status (NoOutcome number) = 2
fault_status Exchanged = 7
fault_status Unwritten = 3
fault_status (Unmade file) = 3
fault_status NoMemory = 6

-- a line that the user is told
abbrev pub line : List ℕ → List ℕ → List ℕ
line what name = concat (codes "logtm: " ∷ what ∷ name ∷ line_end ∷ [])

-- the line on a malformed value, and under it the line on what would do
abbrev pub value_text : List ℕ → List ℕ → List ℕ
value_text text hint = concat (codes "logtm: value " ∷ text ∷ codes "\n        " ∷ hint ∷ line_end ∷ [])

-- the line on something that is refused: the number and the name of its fault
abbrev pub refusal_line : List ℕ → ℕ → List ℕ → List ℕ
refusal_line what number name = concat (codes "logtm: " ∷ what ∷ decimal number ∷ codes " " ∷ name ∷ line_end ∷ [])

-- the line on a line of a source that is refused
abbrev pub refused_text : ℕ → ℕ → List ℕ → List ℕ
refused_text at number name = concat (codes "logtm: line " ∷ decimal at ∷ codes ": " ∷ decimal number ∷ codes " " ∷ name ∷ line_end ∷ [])

-- the same, and then the line itself
abbrev pub refused_line : RefusedLine → List ℕ
refused_line refused = refused_text refused.why.line (asm_number refused.why.fault) (asm_name refused.why.fault) ++ quotation (option_map (λ line. line.now) refused.text)

-- the line on a line of a schedule that spells no step
abbrev pub unspelled_text : ℕ → List ℕ
unspelled_text at = concat (codes "logtm: schedule line " ∷ decimal at ∷ codes ": no step" ∷ line_end ∷ [])

-- the line on an outcome that there isn't
abbrev pub no_outcome_text : ℕ → List ℕ
no_outcome_text number = concat (codes "logtm: no outcome " ∷ decimal number ∷ line_end ∷ [])

-- what the user is told of a fault
abbrev pub fault_text : Fault → List ℕ
fault_text NotText = line (codes "an argument is not text") []
fault_text (Asked text) = concat (string_bytes text ∷ [])
fault_text (Refused text) = concat (string_bytes text ∷ [])
fault_text (Value argument text) = value_text text.now (hint_of argument)
fault_text TwoViews = line (codes "--trace, --timeline and --stats exclude each other") []
fault_text LongPicture = line (codes "a picture takes --steps of at most 2000") []
fault_text LongPage = line (codes "a page takes --steps of at most 20000") []
fault_text ThreadsAlone = line (codes "--threads excludes --schedule, --seed, --trace, --timeline and --stats, and --history needs --threads or --seed") []
fault_text MixAlone = line (codes "--mix needs --seed") []
fault_text TwoFiles = line (codes "--history excludes --timeline, and --trace into a file") []
fault_text (Overwrites file) = line (codes "it would overwrite what it reads: ") file.now
fault_text (Unread file) = line (codes "cannot read ") file.now
fault_text (TooLong file) = line (codes "longer than 33554432 bytes: ") file.now
fault_text NotSource = line (codes "source is not text") []
fault_text (Source refused) = refused_line refused
fault_text (Load fault) = refusal_line (codes "load ") (fault_number fault) (fault_name fault)
fault_text (Boot fault) = refusal_line (codes "boot ") (boot_fault_number fault) (boot_fault_name fault)
fault_text (Word text) = line (codes "word ") text.now
fault_text NotSchedule = line (codes "schedule is not text") []
fault_text (Schedule number) = unspelled_text number
fault_text (NoOutcome number) = no_outcome_text number
fault_text Exchanged = line (codes "the threads gave back another machine") []
fault_text Unwritten = line (codes "cannot write standard output") []
fault_text (Unmade file) = line (codes "cannot write ") file.now
fault_text NoMemory = line (codes "no memory") []

-- a line with a text and a name tells of the fault
abbrev pub IsPlain : Fault → Type 0
IsPlain (Asked text) = ⊥
IsPlain (Refused text) = ⊥
IsPlain (Value argument text) = ⊥
IsPlain (Source refused) = ⊥
IsPlain (Load fault) = ⊥
IsPlain (Boot fault) = ⊥
IsPlain (Schedule number) = ⊥
IsPlain (NoOutcome number) = ⊥
IsPlain other = Unit {0}

-- the fault of a command line
abbrev pub of_order : OrderFault → Fault
of_order (order.Asked text) = Asked text
of_order (order.Refused text) = Refused text
of_order (order.Value argument text) = Value argument text
of_order order.TwoViews = TwoViews
of_order order.LongPicture = LongPicture
of_order order.LongPage = LongPage
of_order order.ThreadsAlone = ThreadsAlone
of_order order.MixAlone = MixAlone
of_order order.TwoFiles = TwoFiles
of_order order.NoMemory = NoMemory

-- the fault of a file, where it is not the file's fault that memory ran out
abbrev pub of_load : LoadFault → Fault
of_load load.Truncated = Load load.Truncated
of_load load.NotElf32 = Load load.NotElf32
of_load load.NotRiscv = Load load.NotRiscv
of_load load.NotExec = Load load.NotExec
of_load load.Compressed = Load load.Compressed
of_load load.BadHeaderSize = Load load.BadHeaderSize
of_load load.SegmentOutside = Load load.SegmentOutside
of_load load.SegmentOverlap = Load load.SegmentOverlap
of_load load.WritableText = Load load.WritableText
of_load load.BadEntry = Load load.BadEntry
of_load load.NoMemory = NoMemory

-- the fault of a boot, likewise
abbrev pub of_boot : BootFault → Fault
of_boot boot.BadSize = Boot boot.BadSize
of_boot boot.BadHarts = Boot boot.BadHarts
of_boot boot.DoesNotFit = Boot boot.DoesNotFit
of_boot boot.NoMemory = NoMemory

-- the fault of a schedule, likewise
abbrev pub of_schedule : ScheduleFault → Fault
of_schedule (schedule.Line number) = Schedule number
of_schedule schedule.NoMemory = NoMemory

-- the fault of a run whose entries are put, likewise
abbrev pub of_halt : Halt → Fault
of_halt halt.NoMemory = NoMemory
of_halt halt.Untold = Unwritten
