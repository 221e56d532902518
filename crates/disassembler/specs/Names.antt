-- The name of an address, and the address of a name.
use Rattle.std.specs.Prelude.{ℕ, ◌-◌, ◌==◌, ◌&&◌, nat_le, nat_lt, if◌then◌else◌, List, [], ◌∷◌, drop, position, slice_get, Bool, Option, Some, None}
use Rattle.std.specs.List.{before_first}
use Rattle.std.specs.Option.{option_and_then, option_map}
use Rattle.std.specs.Str.{bytes_eq}
use Rattle.disassembler.specs.declared.symbol.Symbol.{Symbol}
use Rattle.disassembler.specs.declared.symbol_table.Place.{Place}
use Rattle.disassembler.specs.Tables.{Table}

-- of a symbol and the nearest one behind it in the table, that which is nearer to an address: none that lies above it, else the one with the greater
-- address, and of two with one address the later one
abbrev pub nearer : ℕ → Symbol → Option Symbol → Option Symbol
nearer a s None = if nat_le s.address a then Some s else None
nearer a s (Some t) = if nat_le s.address a && nat_lt t.address s.address then Some s else Some t

-- the nearest symbol at or below an address
abbrev pub nearest : List Symbol → ℕ → Option Symbol
nearest [] a = None
nearest (s ∷ ss) a = nearer a s (nearest ss a)

-- the same, if it reaches so far
abbrev pub symbol_at : List Symbol → ℕ → Option Symbol
symbol_at symbols a = option_and_then (λ s. if nat_lt a s.end then Some s else None) (nearest symbols a)

-- the string at a place, up to the 0 that ends it
abbrev pub string_at : List ℕ → ℕ → List ℕ
string_at strings at = before_first (λ c. c == 0) (drop at strings)

-- where an address lies that belongs to a symbol
abbrev pub place_in : ℕ → Symbol → Place
place_in a s = record { name = s.name; offset = a - s.address }

-- the name of a place, and how many bytes it lies behind the symbol's first one
abbrev pub name_of : List ℕ → Place → List ℕ × ℕ
name_of strings place = (string_at strings place.name, place.offset)

-- those of an address
abbrev pub name_at : Table → ℕ → Option (List ℕ × ℕ)
name_at table a = option_map (name_of table.strings) (option_map (place_in a) (symbol_at table.symbols a))

-- whether a symbol has a name
abbrev pub is_named : List ℕ → List ℕ → Symbol → Bool
is_named strings name s = bytes_eq (string_at strings s.name) name

-- the address of a name: that of the first symbol that has it
abbrev pub address_of : Table → List ℕ → Option ℕ
address_of table name =
    option_map (λ s. s.address) (option_and_then (slice_get table.symbols) (position (is_named table.strings name) table.symbols))
