-- The headers of an ELF32 file, read from its bytes.
use Rattle.std.specs.Prelude.{◌==◌, ◌&&◌, ◌||◌, if◌then◌else◌, ℕ, zero, suc, ◌+◌, ◌*◌, ◌/◌, ◌%◌, nat_lt, Bool, List, [], ◌∷◌, slice_index, take, drop, map}
use Rattle.std.specs.List.{filter}
use Rattle.words.specs.declared.entry.Width.TheVariants.{Half, Word}
use Rattle.words.specs.Bytes.{number_at}
use Rattle.table.specs.Program.{Segment}
use Rattle.loader.specs.declared.headers.FileHeader.{FileHeader}
use Rattle.loader.specs.declared.headers.SegmentHeader.{SegmentHeader}

-- the header of the file, its first 52 bytes
abbrev pub file_header : List ℕ → FileHeader
file_header bytes = record {
  kind = number_at (slice_index bytes) 16 Half;
  machine = number_at (slice_index bytes) 18 Half;
  version = number_at (slice_index bytes) 20 Word;
  entry = number_at (slice_index bytes) 24 Word;
  table_offset = number_at (slice_index bytes) 28 Word;
  flags = number_at (slice_index bytes) 36 Word;
  header_size = number_at (slice_index bytes) 40 Half;
  table_entry_size = number_at (slice_index bytes) 42 Half;
  table_len = number_at (slice_index bytes) 44 Half;
}

-- whether the file has compressed instructions
abbrev pub is_compressed : FileHeader → Bool
is_compressed h = h.flags % 2 == 1

-- whether both kinds of header have their sizes, a segment's where there is one
abbrev pub has_sizes : FileHeader → Bool
has_sizes h = h.header_size == 52 && (h.table_len == 0 || h.table_entry_size == 32)

-- where the segments' headers end in the file, if there are any
abbrev pub table_end : FileHeader → ℕ
table_end h = if h.table_len == 0 then 0 else h.table_offset + 32 * h.table_len

-- the header of a segment, 32 bytes at a place
abbrev pub segment_header : List ℕ → ℕ → SegmentHeader
segment_header bytes at = record {
  kind = number_at (slice_index bytes) at Word;
  offset = number_at (slice_index bytes) (at + 4) Word;
  addr = number_at (slice_index bytes) (at + 8) Word;
  file_size = number_at (slice_index bytes) (at + 16) Word;
  memory_size = number_at (slice_index bytes) (at + 20) Word;
  flags = number_at (slice_index bytes) (at + 24) Word;
}

-- so many of them, one after another
abbrev pub headers_from : List ℕ → ℕ → ℕ → List SegmentHeader
headers_from bytes at zero = []
headers_from bytes at (suc n) = segment_header bytes at ∷ headers_from bytes (at + 32) n

-- whether a header stands for a segment of the program, and whether that may be executed or written
abbrev pub is_loaded : SegmentHeader → Bool
is_loaded h = h.kind == 1 && nat_lt 0 h.memory_size

abbrev pub is_executable : SegmentHeader → Bool
is_executable h = h.flags % 2 == 1

abbrev pub is_writable : SegmentHeader → Bool
is_writable h = h.flags / 2 % 2 == 1

-- where its bytes end in the file, if it has any there, and where it ends in memory
abbrev pub file_end : SegmentHeader → ℕ
file_end h = if h.file_size == 0 then 0 else h.offset + h.file_size

abbrev pub memory_end : SegmentHeader → ℕ
memory_end h = h.addr + h.memory_size

-- whether two segments, each with a byte, share one
abbrev pub share : SegmentHeader → SegmentHeader → Bool
share h k = nat_lt h.addr (memory_end k) && nat_lt k.addr (memory_end h)

-- the headers that stand for segments, in the table's order
abbrev pub loaded_headers : List ℕ → List SegmentHeader
loaded_headers bytes = filter is_loaded (headers_from bytes (file_header bytes).table_offset (file_header bytes).table_len)

-- the segment that a header stands for
abbrev pub segment_of : List ℕ → SegmentHeader → Segment
segment_of bytes h = record { addr = h.addr; bytes = take h.file_size (drop h.offset bytes); size = h.memory_size; exec = is_executable h }

abbrev pub segments_of : List ℕ → List Segment
segments_of bytes = map (segment_of bytes) (loaded_headers bytes)
