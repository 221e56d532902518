-- The numbers that words are spelled with are read back.
use Rattle.std.proofs.Common.{◌≡◌, ℕ, ◌+◌, ◌-◌, ◌*◌, ◌/◌, ◌%◌, ◌^◌, ◌<◌, ◌≤◌, Bool, true, false, cond, ◌&&◌, ◌==◌, nat_lt, min, suc, pos, negsuc, List, [], ◌∷◌, ◌++◌, length, Option, Some, None, option_map, map, codes, refl, sym, ap, ◌∙◌, arith}
use Rattle.std.specs.Prelude.{decimal}
use Rattle.std.specs.Char.{digit_value}
use Rattle.std.specs.Fmt.{signed_decimal}
use Rattle.std.specs.Str.Parse.{AllDigits, IsNumeral, digits_value, digits_value_after}
use Rattle.std.proofs.lemmas.Bool.{ltb-true, ltb-false, lt-ltb, le-leb, eqb-true, ne_eqb}
use Rattle.std.proofs.lemmas.Fmt.{decimal_is_IsNumeral}
use Rattle.texts.specs.Numerals.{hex_digit, hexadecimal}
use Rattle.texts.proofs.Digits.{agree, hexadecimal-length}
use Rattle.disassembler.specs.Canonical.{signed, trimmed, upper}
use Rattle.statements.specs.Cutting.{is_empty}
use Rattle.statements.specs.Numbers.{Number, number, digits_after, digits_in, magnitude_of, number_of, is_from_to, wrapped}

-- a text is a number from -low to high, and n modulo 2^32
pub record IsNumberText (low high n : ℕ) (t : List ℕ) : Type 0 where
  pub value : Number
  pub read : number_of t ≡ Some value
  pub within : is_from_to low high value ≡ true
  pub same : wrapped value ≡ n

-- Digits

digits_read : (base n : ℕ) (ds : List ℕ) → AllDigits base ds → digits_after base n ds ≡ Some (digits_value_after base n ds)
digits_read base n [] all = refl
digits_read base n (c ∷ cs) all =
    ap (λ b. cond b (digits_after base (n * base + digit_value c) cs) None) (lt-ltb (digit_value c) base all.0) ∙ digits_read base (n * base + digit_value c) cs all.1

some_digits_read : (base c : ℕ) (cs : List ℕ) → digits_in base (c ∷ cs) ≡ digits_after base 0 (c ∷ cs)
some_digits_read base c cs = ap (λ b. cond b None (digits_after base 0 (c ∷ cs))) (ne_eqb (length (c ∷ cs)) 0 (λ e. omega arith))

-- the second digit is no `x`
decimal_magnitude : (ds : List ℕ) → IsNumeral 10 ds → magnitude_of ds ≡ Some (digits_value 10 ds)
unfolding magnitude_of
decimal_magnitude [] h = absurd (omega (arith, h.0))
decimal_magnitude (c ∷ []) h = some_digits_read 10 c [] ∙ digits_read 10 0 (c ∷ []) h.1
decimal_magnitude (c ∷ d ∷ ds) h =
    let other : (d == 120) ≡ false = ne_eqb d 120 (λ e. let v : digit_value d ≡ 33 = ap digit_value e in omega (arith, h.1.1.0)) in
    ap (λ b. cond ((c == 48) && b) (digits_in 16 ds) (digits_in 10 (c ∷ d ∷ ds))) other
    ∙ never (c == 48) (digits_in 16 ds) (digits_in 10 (c ∷ d ∷ ds)) ∙ some_digits_read 10 c (d ∷ ds) ∙ digits_read 10 0 (c ∷ d ∷ ds) h.1
  where
    never : (b : Bool) (x y : Option ℕ) → cond (b && false) x y ≡ y
    never true x y = refl
    never false x y = refl

magnitude_is : (n : ℕ) → n < 2 ^ 64 → magnitude_of (decimal n) ≡ Some n
magnitude_is n small = let k = decimal_is_IsNumeral n small in decimal_magnitude (decimal n) k.0 ∙ ap (λ v. Some v) k.1

-- the first digit is no minus sign
unsigned_number : (ds : List ℕ) → IsNumeral 10 ds → number_of ds ≡ option_map (number false) (magnitude_of ds)
unfolding number_of
unsigned_number [] h = absurd (omega (arith, h.0))
unsigned_number (c ∷ cs) h =
    let other : (c == 45) ≡ false = ne_eqb c 45 (λ e. let v : digit_value c ≡ 36 = ap digit_value e in omega (arith, h.1.0)) in
    ap (λ b. cond b (option_map (number true) (magnitude_of cs)) (option_map (number false) (magnitude_of (c ∷ cs)))) other

kept : (negative : Bool) (n : ℕ) → n < 2 ^ 33 → number negative n ≡ record { negative = negative; magnitude = n }
kept negative n small = let same : min n (2 ^ 40) ≡ n = omega arith in ap (λ m. record { negative = negative; magnitude = m }) same

decimal_read : (n : ℕ) → n < 2 ^ 33 → number_of (decimal n) ≡ Some (record { negative = false; magnitude = n })
decimal_read n small =
    unsigned_number (decimal n) (decimal_is_IsNumeral n (omega arith)).0 ∙ ap (option_map (number false)) (magnitude_is n (omega arith)) ∙ ap (λ x. Some x) (kept false n small)

minus_read : (n : ℕ) → n < 2 ^ 33 → number_of (45 ∷ decimal n) ≡ Some (record { negative = true; magnitude = n })
unfolding number_of
minus_read n small = ap (option_map (number true)) (magnitude_is n (omega arith)) ∙ ap (λ x. Some x) (kept true n small)

-- Numbers in base 10

pub decimal_number : (high n : ℕ) → n ≤ high → n < 2 ^ 32 → IsNumberText 0 high n (decimal n)
decimal_number high n le small = record {
  value = record { negative = false; magnitude = n };
  read = decimal_read n (omega arith);
  within = le-leb n high le;
  same = omega arith;
}

signed_by : (low high n : ℕ) (b : Bool) → low ≤ 2 ^ 31 → high < 2 ^ 31 → n < 2 ^ 32 → (n + low) % 2 ^ 32 ≤ low + high → nat_lt n (2 ^ 31) ≡ b
    → IsNumberText low high n (signed_decimal (cond b (pos n) (negsuc (2 ^ 32 - suc n))))
signed_by low high n true hl hh small fits e =
    let half = ltb-true n (2 ^ 31) e in
    record {
      value = record { negative = false; magnitude = n };
      read = decimal_read n (omega arith);
      within = le-leb n high (omega arith);
      same = omega arith;
    }
signed_by low high n false hl hh small fits e =
    let half = ltb-false n (2 ^ 31) e in
    record {
      value = record { negative = true; magnitude = suc (2 ^ 32 - suc n) };
      read = minus_read (suc (2 ^ 32 - suc n)) (omega arith);
      within = le-leb (suc (2 ^ 32 - suc n)) low (omega arith);
      same = omega arith;
    }

-- a number in two's complement
pub signed_number : (low high n : ℕ) → low ≤ 2 ^ 31 → high < 2 ^ 31 → n < 2 ^ 32 → (n + low) % 2 ^ 32 ≤ low + high → IsNumberText low high n (signed n)
unfolding signed
signed_number low high n hl hh small fits = signed_by low high n (nat_lt n (2 ^ 31)) hl hh small fits refl

-- Numbers in base 16

hex_step : (n d : ℕ) (ds : List ℕ) → d < 16 → digits_after 16 n (hex_digit d ∷ ds) ≡ digits_after 16 (n * 16 + d) ds
hex_step n d ds h =
    let v : digit_value (hex_digit d) ≡ d = agree 16 (λ k. digit_value (hex_digit k)) refl d h in
    ap (λ x. cond (nat_lt x 16) (digits_after 16 (n * 16 + x) ds) None) v ∙ ap (λ b. cond b (digits_after 16 (n * 16 + d) ds) None) (lt-ltb d 16 h)

-- the groups of four bits from some bits on, behind a number
abbrev grouped : ℕ → ℕ → List ℕ → ℕ
grouped n m [] = m
grouped n m (low ∷ lows) = grouped n (m * 16 + n / 2 ^ low % 16) lows

groups_read : (n m : ℕ) (lows : List ℕ) → digits_after 16 m (map (λ low. hex_digit (n / 2 ^ low % 16)) lows) ≡ Some (grouped n m lows)
groups_read n m [] = refl
groups_read n m (low ∷ lows) =
    hex_step m (n / 2 ^ low % 16) (map (λ low. hex_digit (n / 2 ^ low % 16)) lows) (omega arith) ∙ groups_read n (m * 16 + n / 2 ^ low % 16) lows

all_groups : (n : ℕ) → n < 2 ^ 32 → grouped n 0 (28 ∷ 24 ∷ 20 ∷ 16 ∷ 12 ∷ 8 ∷ 4 ∷ 0 ∷ []) ≡ n
all_groups n small = omega arith

hexadecimal_digits : (n : ℕ) → n < 2 ^ 32 → digits_after 16 0 (hexadecimal n) ≡ Some n
unfolding hexadecimal
hexadecimal_digits n small = groups_read n 0 (28 ∷ 24 ∷ 20 ∷ 16 ∷ 12 ∷ 8 ∷ 4 ∷ 0 ∷ []) ∙ ap (λ x. Some x) (all_groups n small)

trimmed_step : (b : Bool) (d e : ℕ) (ds : List ℕ) → (d == 48) ≡ b → digits_after 16 0 (trimmed (e ∷ ds)) ≡ digits_after 16 0 (e ∷ ds)
    → digits_after 16 0 (cond b (trimmed (e ∷ ds)) (d ∷ e ∷ ds)) ≡ digits_after 16 0 (d ∷ e ∷ ds)
trimmed_step true d e ds h later = let zero : d ≡ 48 = eqb-true d 48 h in later ∙ ap (λ c. digits_after 16 0 (c ∷ e ∷ ds)) (sym zero)
trimmed_step false d e ds h later = refl

-- zeros in front add nothing
trimmed_digits : (ds : List ℕ) → digits_after 16 0 (trimmed ds) ≡ digits_after 16 0 ds
trimmed_digits [] = refl
trimmed_digits (d ∷ []) = refl
trimmed_digits (d ∷ e ∷ ds) = trimmed_step (d == 48) d e ds refl (trimmed_digits (e ∷ ds))

trimmed_some : (ds : List ℕ) → 0 < length ds → is_empty (trimmed ds) ≡ false
trimmed_some [] h = absurd (omega arith)
trimmed_some (d ∷ []) h = refl
trimmed_some (d ∷ e ∷ ds) h = either (d == 48) (trimmed_some (e ∷ ds) (omega arith))
  where
    either : (b : Bool) → is_empty (trimmed (e ∷ ds)) ≡ false → is_empty (cond b (trimmed (e ∷ ds)) (d ∷ e ∷ ds)) ≡ false
    either true h = h
    either false h = refl

hex_number : (high n : ℕ) (ds : List ℕ) → n ≤ high → n < 2 ^ 32 → is_empty ds ≡ false → digits_after 16 0 ds ≡ Some n → (low : ℕ) → IsNumberText low high n (codes "0x" ++ ds)
unfolding number_of magnitude_of
hex_number high n [] le small some is low = absurd (cc)
hex_number high n (d ∷ ds) le small some is low = record {
  value = record { negative = false; magnitude = n };
  read = ap (option_map (number false)) (some_digits_read 16 d ds ∙ is) ∙ ap (λ x. Some x) (kept false n (omega arith));
  within = le-leb n high le;
  same = omega arith;
}

some_digits : (n : ℕ) → is_empty (hexadecimal n) ≡ false
unfolding hexadecimal
some_digits n = refl

pub hexadecimal_number : (low n : ℕ) → n < 2 ^ 32 → IsNumberText low (2 ^ 32 - 1) n (codes "0x" ++ hexadecimal n)
hexadecimal_number low n small = hex_number (2 ^ 32 - 1) n (hexadecimal n) (omega arith) small (some_digits n) (hexadecimal_digits n small) low

-- the upper 20 bits of a number
pub upper_number : (n : ℕ) → n < 2 ^ 32 → IsNumberText 0 0xfffff (n / 2 ^ 12) (upper n)
unfolding upper
upper_number n small =
    let high : n / 2 ^ 12 < 2 ^ 20 = omega arith in
    hex_number 0xfffff (n / 2 ^ 12) (trimmed (hexadecimal (n / 2 ^ 12))) (omega arith) (omega arith) (trimmed_some (hexadecimal (n / 2 ^ 12)) (omega (arith, hexadecimal-length (n / 2 ^ 12))))
    (trimmed_digits (hexadecimal (n / 2 ^ 12)) ∙ hexadecimal_digits (n / 2 ^ 12) (omega arith)) 0
