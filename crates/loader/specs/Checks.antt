-- What is checked of a file, in which order, and the fault that each check finds.
use Rattle.std.specs.Prelude.{◌≡◌, ◌==◌, ◌&&◌, ◌||◌, not, ℕ, ◌%◌, nat_lt, nat_eq, Bool, false, List, [], ◌∷◌, ◌++◌, length, Option, Some}
use Rattle.std.specs.List.{flat_map, list_any, starts_with}
use Rattle.std.specs.Option.{is_some}
use Rattle.words.specs.First.{first}
use Rattle.table.specs.Program.{Segment, word_at}
use Rattle.loader.specs.declared.fault.LoadFault.{LoadFault}
use Rattle.loader.specs.declared.fault.LoadFault.TheVariants.{Truncated, NotElf32, NotRiscv, NotExec, Compressed, BadHeaderSize, SegmentOutside, SegmentOverlap, WritableText, BadEntry, NoMemory}
use Rattle.loader.specs.declared.headers.SegmentHeader.{SegmentHeader}
use Rattle.loader.specs.Headers.{file_header, is_compressed, has_sizes, table_end, is_writable, is_executable, file_end, memory_end, share, loaded_headers, segments_of}

-- how the file begins: 7F and "ELF", and then 32-bit, little-endian and version 1
abbrev pub ident : List ℕ
ident = 127 ∷ 69 ∷ 76 ∷ 70 ∷ 1 ∷ 1 ∷ 1 ∷ []

-- whether it does, and has version 1 once more in its header
abbrev pub is_elf32 : List ℕ → Bool
is_elf32 bytes = starts_with nat_eq bytes ident && (file_header bytes).version == 1

-- the checks of the file's header: each test holds of a bad file, and stands beside the fault that it finds
abbrev pub file_checks : List ℕ → List (Bool × LoadFault)
file_checks bytes =
    let h = file_header bytes in
    (nat_lt (length bytes) 52, Truncated)
    ∷ (not (is_elf32 bytes), NotElf32)
    ∷ (not (h.machine == 243), NotRiscv)
    ∷ (not (h.kind == 2), NotExec)
    ∷ (is_compressed h, Compressed)
    ∷ (not (has_sizes h), BadHeaderSize)
    ∷ (nat_lt (length bytes) (table_end h), Truncated)
    ∷ []

-- the checks of one segment
abbrev pub segment_checks : List ℕ → SegmentHeader → List (Bool × LoadFault)
segment_checks bytes h =
    (nat_lt (length bytes) (file_end h), Truncated)
    ∷ (nat_lt h.memory_size h.file_size || nat_lt 4194304 (memory_end h), SegmentOutside)
    ∷ (is_writable h && is_executable h, WritableText)
    ∷ []

-- whether any two segments share a byte of memory
abbrev pub some_share : List SegmentHeader → Bool
some_share [] = false
some_share (h ∷ hs) = list_any (share h) hs || some_share hs

-- the checks of the segments: each in turn, and then all together
abbrev pub table_checks : List ℕ → List (Bool × LoadFault)
table_checks bytes = flat_map (segment_checks bytes) (loaded_headers bytes) ++ (some_share (loaded_headers bytes), SegmentOverlap) ∷ []

-- whether a program of these segments can begin at an entry: a multiple of 4 whose word lies in one executable segment
abbrev pub can_begin : ℕ → List Segment → Bool
can_begin entry segments = entry % 4 == 0 && is_some (word_at segments entry)

-- the check of the entry
abbrev pub entry_checks : List ℕ → List (Bool × LoadFault)
entry_checks bytes = (not (can_begin (file_header bytes).entry (segments_of bytes)), BadEntry) ∷ []

-- all of them, in this order
abbrev pub checks : List ℕ → List (Bool × LoadFault)
checks bytes = file_checks bytes ++ (table_checks bytes ++ entry_checks bytes)

-- what is wrong with a file, if anything is
abbrev pub fault_of : List ℕ → Option LoadFault
fault_of bytes = first (checks bytes)

-- whether a fault is the one that was found, or memory ran out
abbrev pub IsFault : LoadFault → Option LoadFault → Type 0
IsFault NoMemory found = Unit {0}
IsFault fault found = found ≡ Some fault
