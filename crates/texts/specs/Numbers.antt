-- Numbers as a user writes them.
use Rattle.std.specs.Prelude.{ℕ, Bool, List, Option, Some, None, ◌&&◌, ◌^◌, if◌then◌else◌, codes, drop, length, nat_eq, nat_lt}
use Rattle.std.specs.Char.{digit_value}
use Rattle.std.specs.List.{list_all, starts_with}
use Rattle.std.specs.Str.Parse.{digits_value}

-- the text has digits of the base, and nothing else
abbrev pub is_numeral : ℕ → List ℕ → Bool
is_numeral base text = nat_lt 0 (length text) && list_all (λ c. nat_lt (digit_value c) base) text

-- the number below 2^32 that the text stands for in the base
abbrev pub number_in : ℕ → List ℕ → Option ℕ
number_in base text =
    if is_numeral base text && nat_lt (digits_value base text) (2 ^ 32)
    then Some (digits_value base text) else None

-- the number that the text stands for: after 0x in base 16, and else in base 10
abbrev pub number_of : List ℕ → Option ℕ
number_of text =
    if starts_with nat_eq text (codes "0x") then number_in 16 (drop 2 text) else number_in 10 text
