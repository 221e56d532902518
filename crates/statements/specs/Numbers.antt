-- Numbers of source: decimal, or hexadecimal behind `0x`, with a minus sign in front of a negative one.
use Rattle.std.specs.Prelude.{ℕ, ◌+◌, ◌-◌, ◌*◌, ◌%◌, ◌^◌, ◌==◌, ◌&&◌, if◌then◌else◌, min, nat_le, nat_lt, Bool, true, false, not, List, [], ◌∷◌, length, drop, slice_index, Option, Some, None, option_map}
use Rattle.std.specs.Char.{digit_value}

pub record Number : Type 0 where
  pub negative : Bool
  pub magnitude : ℕ

-- Each range ends far below this number, so one beyond is kept as this one.
abbrev pub far : ℕ
far = 2 ^ 40

abbrev pub number : Bool → ℕ → Number
number negative magnitude = record { negative = negative; magnitude = min magnitude far }

-- the number that digits of a base spell behind a number
abbrev pub digits_after : ℕ → ℕ → List ℕ → Option ℕ
digits_after base n [] = Some n
digits_after base n (c ∷ cs) = if nat_lt (digit_value c) base then digits_after base (n * base + digit_value c) cs else None

-- the number that one digit or more spell
abbrev pub digits_in : ℕ → List ℕ → Option ℕ
digits_in base ds = if length ds == 0 then None else digits_after base 0 ds

-- in base 16 behind `0x`, else in base 10
unfoldable pub magnitude_of : List ℕ → Option ℕ
magnitude_of [] = None
magnitude_of (c ∷ []) = digits_in 10 (c ∷ [])
magnitude_of (c ∷ d ∷ ds) = if (c == 48) && (d == 120) then digits_in 16 ds else digits_in 10 (c ∷ d ∷ ds)

-- the number that a text is, if it is one
unfoldable pub number_of : List ℕ → Option Number
number_of text =
    if slice_index text 0 == 45 then option_map (number true) (magnitude_of (drop 1 text))
    else option_map (number false) (magnitude_of text)

-- whether a number is from -low to high
abbrev pub is_from_to : ℕ → ℕ → Number → Bool
is_from_to low high n = if n.negative then nat_le n.magnitude low else nat_le n.magnitude high

-- a number modulo 2^32
abbrev pub wrapped : Number → ℕ
wrapped n = if n.negative then (2 ^ 32 - n.magnitude % 2 ^ 32) % 2 ^ 32 else n.magnitude % 2 ^ 32

-- the number with the other sign
abbrev pub negated : Number → Number
negated n = record { negative = not n.negative; magnitude = n.magnitude }

-- how far one number is from another
abbrev pub difference : ℕ → ℕ → Number
difference a b = if nat_lt a b then number true (b - a) else number false (a - b)

-- how far the place that is n beyond an address is from another
abbrev pub distance : ℕ → Number → ℕ → Number
distance to n from = if n.negative then difference to (from + n.magnitude) else difference (to + n.magnitude) from
