-- The bytes that a program is written as: the header of the file, the headers of the segments, and then the bytes of the segments.
use Rattle.std.specs.Prelude.{ℕ, ◌+◌, ◌*◌, if◌then◌else◌, List, [], ◌∷◌, ◌++◌, length, replicate}
use Rattle.std.specs.Int.{w16, w32, to_le_bytes}
use Rattle.std.specs.List.{flat_map}
use Rattle.table.specs.Program.{Segment}
use Rattle.loader.specs.declared.writer.Field.{Field}
use Rattle.loader.specs.declared.writer.Field.TheVariants.{Half, Word}
use Rattle.loader.specs.Checks.{ident}
use Rattle.loader.specs.Programs.{Program}

-- the bytes of a field, the lowest first
abbrev pub field_bytes : Field → List ℕ
field_bytes (Half value) = to_le_bytes w16 value
field_bytes (Word value) = to_le_bytes w32 value

-- how the file begins, e_ident: what it is, and nine zeros
abbrev pub ident_bytes : List ℕ
ident_bytes = ident ++ replicate 9 0

-- the other fields of its header, for an entry and a number of segments
abbrev pub file_fields : ℕ → ℕ → List Field
file_fields entry count =
    Half 2  -- e_type: ET_EXEC
    ∷ Half 243  -- e_machine: EM_RISCV
    ∷ Word 1  -- e_version
    ∷ Word entry  -- e_entry
    ∷ Word 52  -- e_phoff
    ∷ Word 0  -- e_shoff
    ∷ Word 0  -- e_flags
    ∷ Half 52  -- e_ehsize
    ∷ Half 32  -- e_phentsize
    ∷ Half count  -- e_phnum
    ∷ Half 0  -- e_shentsize
    ∷ Half 0  -- e_shnum
    ∷ Half 0  -- e_shstrndx
    ∷ []

-- the fields of a segment's header, where its bytes begin at a place in the file
abbrev pub segment_fields : ℕ → Segment → List Field
segment_fields offset s =
    Word 1  -- p_type: PT_LOAD
    ∷ Word offset  -- p_offset
    ∷ Word s.addr  -- p_vaddr
    ∷ Word s.addr  -- p_paddr
    ∷ Word (length s.bytes)  -- p_filesz
    ∷ Word s.size  -- p_memsz
    ∷ Word (if s.exec then 5 else 6)  -- p_flags: PF_R with PF_X for text, with PF_W for data
    ∷ Word 1  -- p_align
    ∷ []

-- those of all segments, whose bytes stand one after another from a place on
abbrev pub table_fields : ℕ → List Segment → List Field
table_fields offset [] = []
table_fields offset (s ∷ ss) = segment_fields offset s ++ table_fields (offset + length s.bytes) ss

-- the bytes of the segments, one after another
abbrev pub contents : List Segment → List ℕ
contents segments = flat_map (λ s. s.bytes) segments

-- the whole file
abbrev pub elf_of : Program → List ℕ
elf_of p =
    let count = length p.segments in
    ident_bytes
    ++ flat_map field_bytes (file_fields p.entry count)
    ++ flat_map field_bytes (table_fields (52 + 32 * count) p.segments)
    ++ contents p.segments
