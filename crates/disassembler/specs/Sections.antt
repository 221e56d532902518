-- The sections of an ELF32 file, by their headers.
use Rattle.std.specs.Prelude.{ℕ, ◌+◌, ◌*◌, ◌/◌, ◌%◌, ◌==◌, ◌&&◌, nat_le, Bool, if◌then◌else◌, List, [], length, take, drop, map, slice_get, slice_index, Option, Some, None}
use Rattle.std.specs.List.{range_with_len}
use Rattle.std.specs.Option.{option_and_then}
use Rattle.words.specs.declared.entry.Width.TheVariants.{Half, Word}
use Rattle.words.specs.Bytes.{number_at}
use Rattle.disassembler.specs.declared.section.Section.{Section}

-- the header of a section, 40 bytes at a place
abbrev pub section_header : List ℕ → ℕ → Section
section_header bytes at = record {
  kind = number_at (slice_index bytes) (at + 4) Word;
  flags = number_at (slice_index bytes) (at + 8) Word;
  addr = number_at (slice_index bytes) (at + 12) Word;
  offset = number_at (slice_index bytes) (at + 16) Word;
  size = number_at (slice_index bytes) (at + 20) Word;
  link = number_at (slice_index bytes) (at + 24) Word;
  entry_size = number_at (slice_index bytes) (at + 36) Word;
}

-- where the headers begin in the file, e_shoff, and how many there are, e_shnum
abbrev pub headers_offset : List ℕ → ℕ
headers_offset bytes = number_at (slice_index bytes) 32 Word

abbrev pub headers_len : List ℕ → ℕ
headers_len bytes = number_at (slice_index bytes) 48 Half

-- whether the file has them all, each of 40 bytes, e_shentsize
abbrev pub has_headers : List ℕ → Bool
has_headers bytes =
    nat_le 52 (length bytes) && (number_at (slice_index bytes) 46 Half == 40)
    && nat_le (headers_offset bytes + 40 * headers_len bytes) (length bytes)

-- the headers, in the file's order, and none where not all of them are there
abbrev pub sections : List ℕ → List Section
sections bytes =
    if has_headers bytes
    then map (λ i. section_header bytes (headers_offset bytes + 40 * i)) (range_with_len 0 (headers_len bytes)) else []

-- the bytes of a section in the file, if the file has them all
abbrev pub contents : List ℕ → Section → Option (List ℕ)
contents bytes s = if nat_le (s.offset + s.size) (length bytes) then Some (take s.size (drop s.offset bytes)) else None

-- whether a section has instructions, SHF_EXECINSTR
abbrev pub is_text : Section → Bool
is_text s = s.flags / 4 % 2 == 1

-- the section with a number, if it has. Number 0 is none, SHN_UNDEF
abbrev pub text_section : List Section → ℕ → Option Section
text_section sections number =
    if number == 0 then None
    else option_and_then (λ s. if is_text s then Some s else None) (slice_get sections number)
