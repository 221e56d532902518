-- The operands that words are spelled with are read back.
use Rattle.std.proofs.Common.{◌≡◌, ℕ, ◌+◌, ◌-◌, ◌/◌, ◌%◌, ◌^◌, ◌<◌, ◌≤◌, Bool, true, false, cond, not, ◌&&◌, ◌||◌, ◌==◌, nat_lt, nat_le, suc, pos, negsuc, List, [], ◌∷◌, ◌++◌, length, Option, Some, Result, Ok, Err, codes, refl, ap, ◌∙◌, arith, length-append}
use Rattle.std.specs.List.{list_all}
use Rattle.std.specs.Option.{ok_or}
use Rattle.std.specs.Prelude.{decimal}
use Rattle.std.specs.Str.Parse.{AllDigits}
use Rattle.std.specs.Fmt.{signed_decimal}
use Rattle.std.proofs.lemmas.Bool.{and_parts, and_from, leb-true, ltb-false, eq-eqb, le-leb, lt-ltb}
use Rattle.std.proofs.lemmas.Bool.Decides.{nat_tests}
use Rattle.std.proofs.lemmas.Fmt.{decimal_is_IsNumeral, length-decimal-le}
use Rattle.std.proofs.lemmas.Str.Parse.{digit_from_value}
use Rattle.std.proofs.lemmas.List.Folds.{list_all-map}
use Rattle.texts.specs.Numerals.{hex_digit, hexadecimal}
use Rattle.texts.proofs.Digits.{passes, agree, hexadecimal-length}
use Rattle.disassembler.specs.Mnemonics.{register as register_text}
use Rattle.disassembler.specs.Canonical.{signed, trimmed, upper as upper_text}
use Rattle.statements.specs.declared.fault.AsmFault.{AsmFault}
use Rattle.statements.specs.declared.fault.AsmFault.TheVariants.{Operand, Range, Alignment}
use Rattle.statements.specs.Cutting.{Cut, is_empty}
use Rattle.statements.specs.Numbers.{Number, number_of, is_from_to, wrapped}
use Rattle.statements.specs.Registers.{register_named}
use Rattle.statements.specs.Operands.{◌>>=◌, checked, Find, register, immediate, upper, closed, opened, enclosed, based, indirect, number_or_named, target, in_range, offset, value, named_of}
use Rattle.statements.proofs.Round.Tokens.{is_solid, all_weaker, all_both, cut_at, IsToken}
use Rattle.statements.proofs.Round.Numbers.{IsNumberText, signed_number, upper_number}

-- one step after another
pub bound : {A B : Type 0} (r : Result A AsmFault) (f : A → Result B AsmFault) (x : A) (y : Result B AsmFault) → r ≡ Ok x → f x ≡ y → (r >>= f) ≡ y
bound r f x y is next = ap (λ s. s >>= f) is ∙ next

-- Registers

abbrev read_or : Result ℕ AsmFault → ℕ
read_or (Ok r) = r
read_or (Err fault) = 32

from_read : (x : Result ℕ AsmFault) (r : ℕ) → r < 32 → read_or x ≡ r → x ≡ Ok r
from_read (Ok s) r h e = ap (λ k. Ok k) e
from_read (Err fault) r h e = absurd (omega arith)

pub register_read : (r : ℕ) → r < 32 → register (register_text r) ≡ Ok r
unfolding register register_text register_named
register_read r h = from_read (register (register_text r)) r h (agree 32 (λ k. read_or (register (register_text k))) refl r h)

pub register_token : (r : ℕ) → r < 32 → IsToken (register_text r)
unfolding register_text
register_token r h = record {
  solid = passes 32 (λ k. list_all is_solid (register_text k)) refl r h;
  some = nonempty (register_text r) (passes 32 (λ k. not (is_empty (register_text k))) refl r h);
  short = let few : length (register_text r) ≤ 4 = leb-true (length (register_text r)) 4 (passes 32 (λ k. nat_le (length (register_text k)) 4) refl r h) in omega arith;
}
  where
    nonempty : (t : List ℕ) → not (is_empty t) ≡ true → is_empty t ≡ false
    nonempty [] h = absurd (cc)
    nonempty (c ∷ cs) h = refl

register_open : (r : ℕ) → r < 32 → list_all (λ c. not (c == 41)) (register_text r) ≡ true
unfolding register_text
register_open r h = passes 32 (λ k. list_all (λ c. not (c == 41)) (register_text k)) refl r h

-- Numbers

-- a digit, or the sign of a number
abbrev is_figure : ℕ → Bool
is_figure c = nat_le 45 c && nat_lt c 58

figure_passes : (q : ℕ → Bool) → ((k : ℕ) → k < 58 → (nat_lt k 45 || q k) ≡ true) → (c : ℕ) → is_figure c ≡ true → q c ≡ true
figure_passes q all c h = by (q c) (and_parts (nat_le 45 c) (nat_lt c 58) h) (all c)
  where
    by : (b : Bool) → (nat_le 45 c ≡ true) × (nat_lt c 58 ≡ true) → (c < 58 → (nat_lt c 45 || b) ≡ true) → b ≡ true
    by true k every = refl
    by false k every =
        let low = leb-true 45 c k.0 in
        grind (arith, nat_tests)

figure_solid : (c : ℕ) → is_figure c ≡ true → is_solid c ≡ true
figure_solid = figure_passes is_solid (passes 58 (λ k. nat_lt k 45 || is_solid k) refl)

figure_open : (c : ℕ) → is_figure c ≡ true → not (c == 40) ≡ true
figure_open = figure_passes (λ c. not (c == 40)) (passes 58 (λ k. nat_lt k 45 || not (k == 40)) refl)

digits_figures : (ds : List ℕ) → AllDigits 10 ds → list_all is_figure ds ≡ true
digits_figures [] all = refl
digits_figures (c ∷ cs) all =
    let r = digit_from_value c all.0 in
    and_from (is_figure c) (list_all is_figure cs) (and_from (nat_le 45 c) (nat_lt c 58) (le-leb 45 c (omega arith)) (lt-ltb c 58 (omega arith))) (digits_figures cs all.1)

-- a number in base 10, of at most so many bytes
record IsFigures (t : List ℕ) : Type 0 where
  figures : list_all is_figure t ≡ true
  some : is_empty t ≡ false
  few : length t ≤ 11

decimal_figures : (n : ℕ) → n < 2 ^ 33 → list_all is_figure (decimal n) ≡ true
decimal_figures n small = digits_figures (decimal n) (decimal_is_IsNumeral n (omega arith)).0.1

not_empty : (t : List ℕ) → 0 < length t → is_empty t ≡ false
not_empty [] h = absurd (omega arith)
not_empty (c ∷ cs) h = refl

decimal_is : (n : ℕ) → n < 2 ^ 33 → IsFigures (decimal n)
decimal_is n small = record {
  figures = decimal_figures n small;
  some = not_empty (decimal n) (decimal_is_IsNumeral n (omega arith)).0.0;
  few = length-decimal-le 11 n (omega arith) (omega arith) (omega arith);
}

minus_is : (n : ℕ) → n < 2 ^ 32 → IsFigures (45 ∷ decimal n)
minus_is n small =
    let few : length (decimal n) ≤ 10 = length-decimal-le 10 n (omega arith) (omega arith) (omega arith) in
    record { figures = decimal_figures n (omega arith); some = refl; few = omega arith }

signed_by : (n : ℕ) (b : Bool) → n < 2 ^ 32 → nat_lt n (2 ^ 31) ≡ b → IsFigures (signed_decimal (cond b (pos n) (negsuc (2 ^ 32 - suc n))))
signed_by n true small e = decimal_is n (omega arith)
signed_by n false small e = let half = ltb-false n (2 ^ 31) e in minus_is (suc (2 ^ 32 - suc n)) (omega arith)

signed_is : (n : ℕ) → n < 2 ^ 32 → IsFigures (signed n)
unfolding signed
signed_is n small = signed_by n (nat_lt n (2 ^ 31)) small refl

figures_token : (t : List ℕ) → IsFigures t → IsToken t
figures_token t h = record { solid = all_weaker is_figure is_solid figure_solid t h.figures; some = h.some; short = omega (arith, h.few) }

pub decimal_token : (n : ℕ) → n < 2 ^ 32 → IsToken (decimal n)
decimal_token n small = figures_token (decimal n) (decimal_is n (omega arith))

pub signed_token : (n : ℕ) → n < 2 ^ 32 → IsToken (signed n)
signed_token n small = figures_token (signed n) (signed_is n small)

all_true : (q : ℕ → Bool) → ((c : ℕ) → q c ≡ true) → (t : List ℕ) → list_all q t ≡ true
all_true q h [] = refl
all_true q h (c ∷ cs) = and_from (q c) (list_all q cs) (h c) (all_true q h cs)

hexadecimal_solid : (n : ℕ) → list_all is_solid (hexadecimal n) ≡ true
unfolding hexadecimal
hexadecimal_solid n =
    let lows : List ℕ = 28 ∷ 24 ∷ 20 ∷ 16 ∷ 12 ∷ 8 ∷ 4 ∷ 0 ∷ [] in
    list_all-map is_solid (λ low. hex_digit (n / 2 ^ low % 16)) lows
    ∙ all_true (λ low. is_solid (hex_digit (n / 2 ^ low % 16))) (λ low. passes 16 (λ k. is_solid (hex_digit k)) refl (n / 2 ^ low % 16) (omega arith)) lows

trimmed_solid : (ds : List ℕ) → list_all is_solid ds ≡ true → list_all is_solid (trimmed ds) ≡ true
trimmed_solid [] h = refl
trimmed_solid (d ∷ []) h = h
trimmed_solid (d ∷ e ∷ ds) h = either (d == 48) (trimmed_solid (e ∷ ds) (and_parts (is_solid d) (list_all is_solid (e ∷ ds)) h).1)
  where
    either : (b : Bool) → list_all is_solid (trimmed (e ∷ ds)) ≡ true → list_all is_solid (cond b (trimmed (e ∷ ds)) (d ∷ e ∷ ds)) ≡ true
    either true later = later
    either false later = h

trimmed_short : (ds : List ℕ) → length (trimmed ds) ≤ length ds
trimmed_short [] = omega arith
trimmed_short (d ∷ []) = omega arith
trimmed_short (d ∷ e ∷ ds) = either (d == 48) (trimmed_short (e ∷ ds))
  where
    either : (b : Bool) → length (trimmed (e ∷ ds)) ≤ length (e ∷ ds) → length (cond b (trimmed (e ∷ ds)) (d ∷ e ∷ ds)) ≤ length (d ∷ e ∷ ds)
    either true later = omega arith
    either false later = omega arith

pub hexadecimal_token : (n : ℕ) → IsToken (codes "0x" ++ hexadecimal n)
hexadecimal_token n = record {
  solid = hexadecimal_solid n;
  some = refl;
  short = let long = hexadecimal-length n in omega arith;
}

pub upper_token : (n : ℕ) → IsToken (upper_text n)
unfolding upper_text
upper_token n = record {
  solid = trimmed_solid (hexadecimal (n / 2 ^ 12)) (hexadecimal_solid (n / 2 ^ 12));
  some = refl;
  short = let long = hexadecimal-length (n / 2 ^ 12) in let few = trimmed_short (hexadecimal (n / 2 ^ 12)) in omega arith;
}

pub immediate_read : (low high n : ℕ) (t : List ℕ) → IsNumberText low high n t → immediate low high t ≡ Ok n
unfolding immediate
immediate_read low high n t h =
    ap (λ (o : Option Number). ok_or o Operand >>= λ n. checked (is_from_to low high n) Range (wrapped n)) h.read
    ∙ ap (λ b. checked b Range (wrapped h.value)) h.within ∙ ap (λ v. Ok v) h.same

-- the upper 20 bits of a number without others
pub upper_read : (n : ℕ) → n < 2 ^ 32 → n % 2 ^ 12 ≡ 0 → upper (upper_text n) ≡ Ok n
unfolding upper
upper_read n small whole =
    bound (immediate 0 0xfffff (upper_text n)) _ (n / 2 ^ 12) _ (immediate_read 0 0xfffff (n / 2 ^ 12) (upper_text n) (upper_number n small)) (ap (λ v. Ok v) (omega arith))

-- Addresses: a number is what it stands for, whatever the labels are

number_in_range : (low high n : ℕ) (v : Number) → is_from_to low high v ≡ true → wrapped v ≡ n → in_range low high (Some v) ≡ Ok n
number_in_range low high n v within same = ap (λ b. checked b Range (wrapped v)) within ∙ ap (λ v. Ok v) same

pub offset_read : (low high step from n : ℕ) (find : Find) (t : List ℕ) → IsNumberText low high n t → n % step ≡ 0 → offset low high step from find t ≡ Ok n
unfolding offset target
offset_read low high step from n find t h whole =
    bound (target from find t) _ (Some h.value) _ (ap (λ (o : Option Number). number_or_named from find o (named_of t)) h.read)
    (bound (in_range low high (Some h.value)) _ n _ (number_in_range low high n h.value h.within h.same) (ap (λ b. checked b Alignment n) (eq-eqb (n % step) 0 whole)))

pub value_read : (n : ℕ) (find : Find) (t : List ℕ) → IsNumberText (2 ^ 31) (2 ^ 32 - 1) n t → value find t ≡ Ok n
unfolding value target
value_read n find t h =
    bound (target 0 find t) _ (Some h.value) _ (ap (λ (o : Option Number). number_or_named 0 find o (named_of t)) h.read) (number_in_range (2 ^ 31) (2 ^ 32 - 1) n h.value h.within h.same)

-- `front(inner)`

abbrev pub in_parentheses : List ℕ → List ℕ → List ℕ
in_parentheses front inner = front ++ 40 ∷ (inner ++ 41 ∷ [])

enclosed_read : (front inner : List ℕ) → list_all (λ c. not (c == 40)) front ≡ true → list_all (λ c. not (c == 41)) inner ≡ true
    → enclosed (in_parentheses front inner) ≡ Ok (record { front = front; inner = inner })
unfolding enclosed
enclosed_read front inner hf hi =
    ap (λ (k : Cut). opened k.front k.rest) (cut_at (λ c. c == 40) front 40 (inner ++ 41 ∷ []) hf refl)
    ∙ ap (λ (k : Cut). closed front k.front k.rest) (cut_at (λ c. c == 41) inner 41 [] hi refl)

enclosed_token : (front inner : List ℕ) → list_all is_solid front ≡ true → length front ≤ 11 → IsToken inner → length inner ≤ 4 → IsToken (in_parentheses front inner)
enclosed_token front inner hf sf hi si = record {
  solid = all_both is_solid front (40 ∷ (inner ++ 41 ∷ [])) hf (all_both is_solid inner (41 ∷ []) hi.solid refl);
  some = not_empty (in_parentheses front inner) (omega (arith, length-append front (40 ∷ (inner ++ 41 ∷ []))));
  short = omega (arith, length-append front (40 ∷ (inner ++ 41 ∷ [])), length-append inner (41 ∷ []));
}

register_short : (r : ℕ) → r < 32 → length (register_text r) ≤ 4
unfolding register_text
register_short r h = leb-true (length (register_text r)) 4 (passes 32 (λ k. nat_le (length (register_text k)) 4) refl r h)

pub based_token : (n r : ℕ) → n < 2 ^ 32 → r < 32 → IsToken (in_parentheses (signed n) (register_text r))
based_token n r small h =
    let k = signed_is n small in
    enclosed_token (signed n) (register_text r) (all_weaker is_figure is_solid figure_solid (signed n) k.figures) k.few (register_token r h) (register_short r h)

pub based_read : (n r : ℕ) → n < 2 ^ 32 → (n + 2048) % 2 ^ 32 < 4096 → r < 32 → based (in_parentheses (signed n) (register_text r)) ≡ Ok (record { imm = n; base = r })
unfolding based
based_read n r small within h =
    let number = signed_number 2048 2047 n (omega arith) (omega arith) small (omega arith) in
    let lacks = all_weaker is_figure (λ c. not (c == 40)) figure_open (signed n) (signed_is n small).figures in
    bound (enclosed (in_parentheses (signed n) (register_text r))) _ (record { front = signed n; inner = register_text r }) _ (enclosed_read (signed n) (register_text r) lacks (register_open r h))
    (bound (ok_or (number_of (signed n)) Operand) _ number.value _ (ap (λ (o : Option Number). ok_or o Operand) number.read)
    (bound (register (register_text r)) _ r _ (register_read r h)
    (bound (checked (is_from_to 2048 2047 number.value) Range (wrapped number.value)) _ n _ (ap (λ b. checked b Range (wrapped number.value)) number.within ∙ ap (λ v. Ok v) number.same) refl)))

pub indirect_token : (r : ℕ) → r < 32 → IsToken (in_parentheses [] (register_text r))
indirect_token r h = enclosed_token [] (register_text r) refl (omega arith) (register_token r h) (register_short r h)

pub indirect_read : (r : ℕ) → r < 32 → indirect (in_parentheses [] (register_text r)) ≡ Ok r
unfolding indirect
indirect_read r h =
    bound (enclosed (in_parentheses [] (register_text r))) _ (record { front = []; inner = register_text r }) _ (enclosed_read [] (register_text r) refl (register_open r h)) (register_read r h)
