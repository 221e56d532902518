-- The program in a file: a source's, where the file's name says so, else an ELF file's.
use Rattle.std.specs.Prelude.{ℕ, ◌≡◌, ◌⊎◌, Bool, true, false, List, Err, Some, codes, nat_eq, if◌then◌else◌}
use Rattle.std.specs.List.{ends_with}
use Rattle.std.specs.Option.{option_map}
use Rattle.std.specs.Str.{IsUtf8}
use Rattle.loader.specs.Programs.{Program}
use Rattle.loader.specs.Checks.{fault_of}
use Rattle.loader.specs.Elf.{IsElfOf}
use Rattle.assembler.specs.Passes.{assembled}
use Rattle.assembler.specs.Layouts.{IsSourceOf as IsSpelledBy}
use Rattle.statements.specs.declared.fault.AsmFault.{AsmFault}
use Rattle.statements.specs.declared.fault.AsmFault.TheVariants as asm
use Rattle.disassembler.specs.Tables.{Table, no_symbols, table_of}
use Rattle.requests.specs.Quotes.{line_numbered}
use Rattle.requests.specs.declared.fault.Fault.{Fault}
use Rattle.requests.specs.declared.fault.Fault.TheVariants.{NotSource, Source, Load, NoMemory}

-- whether the name of a file is that of a source
abbrev pub is_source : List ℕ → Bool
is_source path = ends_with nat_eq path (codes ".s")

-- the bytes are text, and a source of the program
abbrev pub IsSourceOf : List ℕ → Program → Type 0
IsSourceOf file p = IsUtf8 file × IsSpelledBy file p

-- the file with this name and these bytes has the program
abbrev pub IsProgramIn : List ℕ → List ℕ → Program → Type 0
IsProgramIn path file p = ((is_source path ≡ true) × IsSourceOf file p) ⊎ ((is_source path ≡ false) × IsElfOf file p)

-- memory ran out, which is no fault of a source
abbrev pub is_no_memory : AsmFault → Bool
is_no_memory asm.NoMemory = true
is_no_memory other = false

-- why the bytes are the source of no program: they are no text, or a line is refused. Nothing is said of when memory runs out
abbrev pub IsSourceFault : List ℕ → Fault → Type 0
IsSourceFault file NotSource = IsUtf8 file → ⊥
IsSourceFault file (Source refused) = IsUtf8 file × (assembled file ≡ Err refused.why) × (option_map (λ line. line.now) refused.text ≡ line_numbered refused.why.line file)
IsSourceFault file NoMemory = Unit {0}
IsSourceFault file other = ⊥

-- why they are no ELF file of a program
abbrev pub IsElfFault : List ℕ → Fault → Type 0
IsElfFault file (Load fault) = fault_of file ≡ Some fault
IsElfFault file NoMemory = Unit {0}
IsElfFault file other = ⊥

-- the names that a program in the file with this name and these bytes is shown with: those of an ELF file's symbols, and for a source none
abbrev pub names_in : List ℕ → List ℕ → Table
names_in path file = if is_source path then no_symbols else table_of file

-- why there is no program in the file with this name and these bytes
abbrev pub IsProgramFault : List ℕ → List ℕ → Fault → Type 0
IsProgramFault path file fault = ((is_source path ≡ true) × IsSourceFault file fault) ⊎ ((is_source path ≡ false) × IsElfFault file fault)
