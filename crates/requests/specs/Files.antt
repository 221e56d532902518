-- What is made of a file alone: a listing, or the program of a source.
use Rattle.std.specs.Prelude.{ℕ, ◌≡◌, ◌⊎◌, List}
use Rattle.words.specs.Sinks.{IsUntouched, SinkState, TookAll, TookPart}
use Rattle.loader.specs.Elf.{IsElfOf}
use Rattle.loader.specs.Programs.{Program}
use Rattle.loader.specs.Writing.{elf_of}
use Rattle.disassembler.specs.Tables.{table_of}
use Rattle.disassembler.specs.Listing.{listing_of}
use Rattle.requests.specs.Sources.{IsElfFault, IsSourceOf}
use Rattle.requests.specs.declared.fault.Fault.{Fault}
use Rattle.requests.specs.declared.fault.Fault.TheVariants.{Unwritten}

-- the listing of the program that the file with these bytes is was taken, with the names of its symbols
abbrev pub IsListed : List ℕ → SinkState → SinkState → ℕ → Type 0
IsListed file before after status = (status ≡ 0) × ((p : Program) × IsElfOf file p × TookAll before after (listing_of (table_of file) p))

-- or a beginning of it; or the file is no program, and nothing was taken
abbrev pub IsUnlisted : List ℕ → SinkState → SinkState → Fault → Type 0
IsUnlisted file before after fault = ((fault ≡ Unwritten) × ((p : Program) × IsElfOf file p × TookPart before after (listing_of (table_of file) p)))
    ⊎ (IsElfFault file fault × IsUntouched before after)

-- the bytes are those of an ELF file of the program that a source makes, and are read as this very program
abbrev pub IsImageOf : List ℕ → List ℕ → Type 0
IsImageOf source image = (p : Program) × IsSourceOf source p × (image ≡ elf_of p) × IsElfOf image p
