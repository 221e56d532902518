-- Names of the program's, as the page is told of them.
use Rattle.std.specs.Prelude.{ℕ, Bool, ◌==◌, ◌&&◌, ◌||◌, nat_le, cond, List, [], ◌∷◌, ◌++◌, drop, codes}
use Rattle.std.specs.List.{flat_map}
use Rattle.texts.specs.Numerals.{hexadecimal}

-- a letter, a digit, or one of these: a space, a plus sign, a dot, a low line
abbrev pub is_plain : ℕ → Bool
is_plain c = (nat_le 97 c && nat_le c 122) || (nat_le 65 c && nat_le c 90) || (nat_le 48 c && nat_le c 57)
    || (c == 32) || (c == 43) || (c == 46) || (c == 95)

-- what stands for a byte in a string of JavaScript: any other than those by its number
abbrev pub byte_text : ℕ → List ℕ
byte_text c = cond (is_plain c) (c ∷ []) (codes "\\x" ++ drop 6 (hexadecimal c))

abbrev pub quoted : List ℕ → List ℕ
quoted name = flat_map byte_text name

-- a byte that names are spelled with: a plain one, or the backslash before a number
abbrev pub is_spelling : ℕ → Bool
is_spelling c = is_plain c || (c == 92)

abbrev pub string_text : List ℕ → List ℕ
string_text name = codes "name:\"" ++ (quoted name ++ codes "\",")

-- what stands behind an address, if anything does
abbrev pub name_text : List ℕ → List ℕ
name_text [] = []
name_text (c ∷ cs) = string_text (c ∷ cs)
