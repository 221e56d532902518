-- Which symbols of code an ELF32 file has.
use Rattle.std.specs.Prelude.{ℕ, ◌+◌, ◌*◌, ◌/◌, ◌%◌, ◌==◌, ◌&&◌, ◌||◌, not, nat_eq, nat_lt, Bool, if◌then◌else◌, List, [], ◌∷◌, length, drop, position, slice_get, slice_index, codes, Option, Some, None}
use Rattle.std.specs.List.{ends_with, flat_map, range_with_len, starts_with}
use Rattle.std.specs.Option.{option_and_then, option_map, option_to_list}
use Rattle.words.specs.declared.entry.Width.TheVariants.{Half, Word}
use Rattle.words.specs.Bytes.{number_at}
use Rattle.disassembler.specs.declared.entry.Entry.{Entry}
use Rattle.disassembler.specs.declared.section.Section.{Section}
use Rattle.disassembler.specs.declared.symbol.Symbol.{Symbol}
use Rattle.disassembler.specs.Sections.{contents, sections, text_section}

-- the symbols of a file, in the order of its symbol table, and the strings in which their names stand
pub record Table : Type 0 where
  pub strings : List ℕ
  pub symbols : List Symbol

-- what of an entry of a symbol table is read, 16 bytes at a place: the Elf32_Sym
abbrev pub entry_at : List ℕ → ℕ → Entry
entry_at entries at = record {
  name = number_at (slice_index entries) at Word;
  value = number_at (slice_index entries) (at + 4) Word;
  size = number_at (slice_index entries) (at + 8) Word;
  info = slice_index entries (at + 12);
  section = number_at (slice_index entries) (at + 14) Half;
}

-- whether it may stand for code: its type is STT_NOTYPE or STT_FUNC
abbrev pub may_be_code : Entry → Bool
may_be_code e = (e.info % 16 == 0) || (e.info % 16 == 2)

-- whether a name stands at a place among the strings, other than that of a mapping symbol, as the psABI calls those that tell instructions ($x) from data ($d)
abbrev pub has_name : List ℕ → ℕ → Bool
has_name strings at =
    let text = drop at strings in
    nat_lt at (length strings) && not (starts_with nat_eq text (0 ∷ []))
    && not (starts_with nat_eq text (codes "$d")) && not (starts_with nat_eq text (codes "$x"))

-- the symbol of an entry that is defined in a section: it reaches as far as its size says, and without a size to the end of the section
abbrev pub symbol_in : Entry → Section → Symbol
symbol_in e s = record {
  address = e.value;
  end = if e.size == 0 then s.addr + s.size else e.value + e.size;
  name = e.name;
}

-- the symbol of code that an entry stands for, if it does: it has a name, and a section of text defines it
abbrev pub symbol_of : List Section → List ℕ → Entry → Option Symbol
symbol_of sections strings e =
    if may_be_code e && has_name strings e.name then option_map (symbol_in e) (text_section sections e.section) else None

-- those of a table's entries, in order
abbrev pub symbols_in : List Section → List ℕ → List ℕ → List Symbol
symbols_in sections strings entries =
    flat_map (λ i. option_to_list (symbol_of sections strings (entry_at entries (16 * i)))) (range_with_len 0 (length entries / 16))

-- the first symbol table, SHT_SYMTAB
abbrev pub symbol_table : List Section → Option Section
symbol_table sections = option_and_then (slice_get sections) (position (λ s. s.kind == 2) sections)

-- the bytes of a string table, SHT_STRTAB: the last of them ends a string
abbrev pub strings_of : List ℕ → Section → Option (List ℕ)
strings_of bytes s =
    option_and_then (λ strings. if s.kind == 3 && ends_with nat_eq strings (0 ∷ []) then Some strings else None) (contents bytes s)

-- the bytes of a symbol table's entries, each of 16
abbrev pub entries_of : List ℕ → Section → Option (List ℕ)
entries_of bytes s = if s.entry_size == 16 then contents bytes s else None

-- of a file with these sections the bytes of the symbol table's entries, and those of the strings that they name, where both lie in the file
abbrev pub parts_of : List ℕ → List Section → Option (List ℕ × List ℕ)
parts_of bytes sections =
    option_and_then (λ s.
    option_and_then (λ entries.
    option_and_then (λ names. option_map (λ strings. (entries, strings)) (strings_of bytes names))
    (slice_get sections s.link))
    (entries_of bytes s))
    (symbol_table sections)

-- no symbols at all
abbrev pub no_symbols : Table
no_symbols = record { strings = []; symbols = [] }

-- the table that these parts make, if they are there
abbrev pub table_by : List Section → Option (List ℕ × List ℕ) → Table
table_by sections None = no_symbols
table_by sections (Some (entries, strings)) = record { strings = strings; symbols = symbols_in sections strings entries }

-- the table of a file. One that isn't whole has no symbols
unfoldable pub table_of : List ℕ → Table
table_of bytes = table_by (sections bytes) (parts_of bytes (sections bytes))
