-- Which program a file is.
use Rattle.std.specs.Prelude.{◌≡◌, ℕ, false, ◌%◌, ◌≤◌, IsTrue, IsSome, List, length}
use Rattle.std.specs.List.{AllByRecursion}
use Rattle.table.specs.Program.{word_at}
use Rattle.loader.specs.declared.headers.SegmentHeader.{SegmentHeader}
use Rattle.loader.specs.Headers.{file_header, is_compressed, has_sizes, table_end, is_writable, is_executable, file_end, memory_end, loaded_headers, segments_of}
use Rattle.loader.specs.Checks.{is_elf32}
use Rattle.loader.specs.Programs.{Program, AreApart}

-- What the header of a segment that is loaded has to say: its bytes lie in the file and are no more than it has in memory,
-- it ends within 4 MiB, and it isn't both written and executed.
pub record CanLoad (bytes : List ℕ) (h : SegmentHeader) : Type 0 where
  pub in_file : file_end h ≤ length bytes
  pub given : h.file_size ≤ h.memory_size
  pub end : memory_end h ≤ 4194304
  pub one_use : IsTrue (is_writable h) → IsTrue (is_executable h) → ⊥

-- The bytes are an ELF32 executable for RISC-V without compressed instructions, and it is this program: the entry is the
-- header's, and the segments are those of the headers that are loaded, in the table's order.
pub record IsElfOf (bytes : List ℕ) (p : Program) : Type 0 where
  pub long : 52 ≤ length bytes
  pub elf32 : IsTrue (is_elf32 bytes)
  pub machine : (file_header bytes).machine ≡ 243
  pub kind : (file_header bytes).kind ≡ 2
  pub plain : is_compressed (file_header bytes) ≡ false
  pub sizes : IsTrue (has_sizes (file_header bytes))
  pub table : table_end (file_header bytes) ≤ length bytes
  pub each : AllByRecursion (CanLoad bytes) (loaded_headers bytes)
  pub entry : p.entry ≡ (file_header bytes).entry
  pub segments : p.segments ≡ segments_of bytes
  pub apart : AreApart p.segments
  pub aligned : p.entry % 4 ≡ 0
  pub fetched : IsSome (word_at p.segments p.entry)

-- the program that the fields of a file give, where it is one
abbrev pub program_of : List ℕ → Program
program_of bytes = record { entry = (file_header bytes).entry; segments = segments_of bytes }
