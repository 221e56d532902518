-- What is read of a file that was written: its headers, and what they stand for.
use Rattle.std.proofs.Common.{◌≡◌, ℕ, ◌+◌, ◌*◌, ◌/◌, ◌%◌, ◌^◌, ◌<◌, Bool, true, false, if◌then◌else◌, List, [], ◌∷◌, ◌++◌, length, map, take, drop, refl, sym, ap, ◌∙◌, arith, append_assoc, length-append}
use Rattle.std.specs.Prelude.{slice_index, ◌==◌}
use Rattle.std.specs.List.{AllByRecursion, filter, flat_map}
use Rattle.std.proofs.lemmas.Bool.{lt-ltb}
use Rattle.std.proofs.lemmas.List.{get_or-append-add}
use Rattle.std.proofs.Math.Seq.{drop-append_seam, take-append_seam}
use Rattle.words.specs.declared.entry.Width.TheVariants.{Word}
use Rattle.words.specs.Bytes.{number_at}
use Rattle.table.specs.Program.{Segment}
use Rattle.loader.specs.declared.headers.FileHeader.{FileHeader}
use Rattle.loader.specs.declared.headers.SegmentHeader.{SegmentHeader}
use Rattle.loader.specs.Headers.{file_header, segment_header, headers_from, is_loaded, segment_of}
use Rattle.loader.specs.Programs.{Program, IsSegment}
use Rattle.loader.specs.Writing.{field_bytes, segment_fields, table_fields, contents, elf_of}

-- the bytes of a number give it back
half_of_bytes : (v : ℕ) → v < 2 ^ 16 → v % 256 + 256 * (v / 256 % 256) ≡ v
half_of_bytes v lt = omega arith

word_of_bytes : (v : ℕ) → v < 2 ^ 32 → v % 256 + 256 * (v / 256 % 256) + 65536 * (v / 65536 % 256) + 16777216 * (v / 16777216 % 256) ≡ v
word_of_bytes v lt = omega arith

-- the header of the file, as it is read
abbrev pub file_header_of : Program → FileHeader
file_header_of p = record {
  kind = 2;
  machine = 243;
  version = 1;
  entry = p.entry;
  table_offset = 52;
  flags = 0;
  header_size = 52;
  table_entry_size = 32;
  table_len = length p.segments;
}

pub header_read : (p : Program) → p.entry < 2 ^ 32 → length p.segments < 2 ^ 16 → file_header (elf_of p) ≡ file_header_of p
header_read p le ls = λ i. record (file_header_of p) { entry = word_of_bytes p.entry le i; table_len = half_of_bytes (length p.segments) ls i }

-- a segment's header, as it is read, and those of all segments
abbrev pub header_of : ℕ → Segment → SegmentHeader
header_of offset s = record {
  kind = 1;
  offset = offset;
  addr = s.addr;
  file_size = length s.bytes;
  memory_size = s.size;
  flags = if s.exec then 5 else 6;
}

abbrev pub headers_of : ℕ → List Segment → List SegmentHeader
headers_of offset [] = []
headers_of offset (s ∷ ss) = header_of offset s ∷ headers_of (offset + length s.bytes) ss

flags_fit : (exec : Bool) → (if exec then 5 else 6) < 2 ^ 32
flags_fit true = omega arith
flags_fit false = omega arith

header_first : (offset : ℕ) (s : Segment) (rest : List ℕ) → offset < 2 ^ 32 → s.addr < 2 ^ 32 → length s.bytes < 2 ^ 32 → s.size < 2 ^ 32
    → segment_header (flat_map field_bytes (segment_fields offset s) ++ rest) 0 ≡ header_of offset s
header_first offset s rest lo la lb ls = λ i. record {
  kind = 1;
  offset = word_of_bytes offset lo i;
  addr = word_of_bytes s.addr la i;
  file_size = word_of_bytes (length s.bytes) lb i;
  memory_size = word_of_bytes s.size ls i;
  flags = word_of_bytes (if s.exec then 5 else 6) (flags_fit s.exec) i;
}

-- it stands behind what comes before it
word_behind : (front rest : List ℕ) (k : ℕ) → number_at (slice_index (front ++ rest)) (length front + k) Word ≡ number_at (slice_index rest) k Word
word_behind front rest k =
    let at : (j : ℕ) → slice_index (front ++ rest) (length front + j) ≡ slice_index rest j = λ j. get_or-append-add front rest j 0 in
    let one : length front + k + 1 ≡ length front + (k + 1) = omega arith in
    let two : length front + k + 2 ≡ length front + (k + 2) = omega arith in
    let three : length front + k + 3 ≡ length front + (k + 3) = omega arith in
    rw (one, two, three, at k, at (k + 1), at (k + 2), at (k + 3)) refl

header_behind : (front rest : List ℕ) → segment_header (front ++ rest) (length front) ≡ segment_header rest 0
header_behind front rest =
    let here : length front ≡ length front + 0 = omega arith in
    λ i. record {
      kind = (ap (λ n. number_at (slice_index (front ++ rest)) n Word) here ∙ word_behind front rest 0) i;
      offset = word_behind front rest 4 i;
      addr = word_behind front rest 8 i;
      file_size = word_behind front rest 16 i;
      memory_size = word_behind front rest 20 i;
      flags = word_behind front rest 24 i;
    }

-- so the table is read as these headers
pub table_read : (bytes front rest : List ℕ) (offset : ℕ) (ss : List Segment) → AllByRecursion IsSegment ss → offset + length (contents ss) < 2 ^ 32
    → bytes ≡ front ++ (flat_map field_bytes (table_fields offset ss) ++ rest) → headers_from bytes (length front) (length ss) ≡ headers_of offset ss
table_read bytes front rest offset [] each lt e = refl
table_read bytes front rest offset (s ∷ ss) each lt e =
    let header = flat_map field_bytes (segment_fields offset s) in
    let next = flat_map field_bytes (table_fields (offset + length s.bytes) ss) ++ rest in
    let long = length-append s.bytes (contents ss) in
    let end = each.0.end in
    let fits = header_first offset s next (omega (arith, lt)) (omega (arith, end)) (omega (arith, lt, long)) (omega (arith, end)) in
    let first : segment_header bytes (length front) ≡ header_of offset s =
    ap (λ bs. segment_header bs (length front)) e ∙ header_behind front (header ++ next) ∙ fits in
    let others = table_read bytes (front ++ header) rest (offset + length s.bytes) ss each.1 (omega (arith, lt, long)) (e ∙ sym (append_assoc front header next)) in
    rw (first, ← length-append front header, others) refl

-- and each header stands for its segment
executable : (exec : Bool) → ((if exec then 5 else 6) % 2 == 1) ≡ exec
executable true = refl
executable false = refl

pub contents_read : (bytes front : List ℕ) (ss : List Segment) → bytes ≡ front ++ contents ss → map (segment_of bytes) (headers_of (length front) ss) ≡ ss
contents_read bytes front [] e = refl
contents_read bytes front (s ∷ ss) e =
    let len = length s.bytes in
    let given : take len (drop (length front) bytes) ≡ s.bytes =
    ap (λ bs. take len (drop (length front) bs)) e ∙ ap (take len) (drop-append_seam front (s.bytes ++ contents ss)) ∙ take-append_seam s.bytes (contents ss) in
    let first : segment_of bytes (header_of (length front) s) ≡ s = λ i. record { addr = s.addr; bytes = given i; size = s.size; exec = executable s.exec i } in
    let others = contents_read bytes (front ++ s.bytes) ss (e ∙ sym (append_assoc front s.bytes (contents ss))) in
    rw (first, ← length-append front s.bytes, others) refl

-- all of them are loaded
pub all_loaded : (offset : ℕ) (ss : List Segment) → AllByRecursion IsSegment ss → filter is_loaded (headers_of offset ss) ≡ headers_of offset ss
all_loaded offset [] each = refl
all_loaded offset (s ∷ ss) each = rw (lt-ltb 0 s.size each.0.some_byte, all_loaded (offset + length s.bytes) ss each.1) refl
