-- A name is spelled in plain bytes and backslashes.
use Rattle.std.proofs.Common.{◌≡◌, ℕ, ◌++◌, ◌&&◌, ◌||◌, ◌==◌, Bool, true, false, cond, List, [], ◌∷◌, drop, codes, refl, ap, ap₂, ◌∙◌, arith, ◌/◌, ◌%◌, ◌^◌}
use Rattle.std.specs.List.{list_all}
use Rattle.std.proofs.lemmas.List.Folds.{list_all-append}
use Rattle.texts.specs.Numerals.{hexadecimal, hex_digit}
use Rattle.texts.proofs.Digits.{passes}
use Rattle.pages.specs.Names.{byte_text, is_plain, is_spelling, quoted}

digit_spells : (n : ℕ) → is_spelling (hex_digit (n % 16)) ≡ true
digit_spells n = passes 16 (λ k. is_spelling (hex_digit k)) refl (n % 16) (omega arith)

number_spells : (c : ℕ) → list_all is_spelling (codes "\\x" ++ drop 6 (hexadecimal c)) ≡ true
unfolding hexadecimal
number_spells c = ap₂ (λ (a b : Bool). a && (b && true)) (digit_spells (c / 2 ^ 4)) (digit_spells (c / 2 ^ 0))

byte_spells : (c : ℕ) → list_all is_spelling (byte_text c) ≡ true
byte_spells c = by (is_plain c) refl
  where
    by : (plain : Bool) → is_plain c ≡ plain → list_all is_spelling (cond plain (c ∷ []) (codes "\\x" ++ drop 6 (hexadecimal c))) ≡ true
    by true is = ap (λ (b : Bool). (b || (c == 92)) && true) is
    by false is = number_spells c

pub all_spell : (name : List ℕ) → list_all is_spelling (quoted name) ≡ true
all_spell [] = refl
all_spell (c ∷ cs) = list_all-append is_spelling (byte_text c) (quoted cs) ∙ ap₂ (λ (a b : Bool). a && b) (byte_spells c) (all_spell cs)
