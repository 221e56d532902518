-- The names of registers in source.
use Rattle.std.specs.Prelude.{ℕ, if◌then◌else◌, List, [], ◌∷◌, codes, bytes_eq, position, Option, Some, None}
use Rattle.disassembler.specs.Mnemonics.{registers}

-- x0 to x31 by their numbers
abbrev pub numbered : List (List ℕ)
numbered =
    codes "x0" ∷ codes "x1" ∷ codes "x2" ∷ codes "x3" ∷ codes "x4" ∷ codes "x5" ∷ codes "x6" ∷ codes "x7" ∷
    codes "x8" ∷ codes "x9" ∷ codes "x10" ∷ codes "x11" ∷ codes "x12" ∷ codes "x13" ∷ codes "x14" ∷ codes "x15" ∷
    codes "x16" ∷ codes "x17" ∷ codes "x18" ∷ codes "x19" ∷ codes "x20" ∷ codes "x21" ∷ codes "x22" ∷ codes "x23" ∷
    codes "x24" ∷ codes "x25" ∷ codes "x26" ∷ codes "x27" ∷ codes "x28" ∷ codes "x29" ∷ codes "x30" ∷ codes "x31" ∷
    []

abbrev pub or_else : Option ℕ → Option ℕ → Option ℕ
or_else None other = other
or_else (Some r) other = Some r

-- the place of a name in a list
abbrev pub place_of : List ℕ → List (List ℕ) → Option ℕ
place_of name names = position (λ n. bytes_eq n name) names

-- the register with a name: the ABI's, which has two for x8, or the number behind an x
unfoldable pub register_named : List ℕ → Option ℕ
register_named name = or_else (place_of name registers) (or_else (place_of name numbered) (if bytes_eq name (codes "fp") then Some 8 else None))
