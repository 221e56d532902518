-- Numbers don't share their texts.
use Rattle.std.proofs.Common.{◌≡◌, ◌≢◌, ℕ, ◌+◌, ◌<◌, ◌==◌, ◌/◌, ◌%◌, ◌^◌, Bool, true, false, cond, suc, List, [], ◌∷◌, ◌++◌, length, refl, ap, sym, ◌∙◌, arith, length-append, ℤ, pos, negsuc}
use Rattle.std.proofs.lemmas.List.{length-replicate}
use Rattle.std.proofs.lemmas.Bool.{eqb-true}
use Rattle.std.proofs.lemmas.Fmt.{decimal_is_IsNumeral, signed_decimal_injective}
use Rattle.std.proofs.lemmas.Int.{of_z-to_z}
use Rattle.std.specs.Int.Signed.{mag}
use Rattle.std.specs.Fmt.{signed_decimal}
use Rattle.std.specs.Int.{w32, cast_signed, cast_unsigned}
use Rattle.std.specs.Str.Parse.{AllDigits}
use Rattle.std.specs.Char.{digit_value}
use Rattle.std.specs.Prelude.{decimal, replicate}
use Rattle.texts.specs.Numerals.{hexadecimal}
use Rattle.texts.proofs.Digits.{hexadecimal-same, hexadecimal-length}
use Rattle.disassembler.specs.Canonical.{signed, trimmed, upper}
use Rattle.disassembler.proofs.Cutting.{Lacks, tail-same}

-- digits are followed by what is no digit
digits-lack : (c : ℕ) (ds : List ℕ) → digit_value c ≡ 36 → AllDigits 10 ds → Lacks c ds
digits-lack c [] beyond all = tt
digits-lack c (d ∷ ds) beyond all =
    ((λ e. let v : digit_value d ≡ digit_value c = ap digit_value e in omega (arith, all.0)), digits-lack c ds beyond all.1)

decimal-lacks : (c n : ℕ) → digit_value c ≡ 36 → n < 2 ^ 64 → Lacks c (decimal n)
decimal-lacks c n beyond small = digits-lack c (decimal n) beyond (decimal_is_IsNumeral n small).0.1

signed_decimal-lacks : (c : ℕ) (z : ℤ) → digit_value c ≡ 36 → 45 ≢ c → mag z < 2 ^ 63 → Lacks c (signed_decimal z)
signed_decimal-lacks c (pos n) beyond sign small = decimal-lacks c n beyond (omega (arith, small))
signed_decimal-lacks c (negsuc n) beyond sign small = (sign, decimal-lacks c (suc n) beyond (omega (arith, small)))

small : (n : ℕ) → n < 2 ^ 32 → mag (cast_signed w32 n) < 2 ^ 63
small n h = grind arith

pub signed-lacks : (c n : ℕ) → digit_value c ≡ 36 → 45 ≢ c → n < 2 ^ 32 → Lacks c (signed n)
unfolding signed
signed-lacks c n beyond sign h = signed_decimal-lacks c (cast_signed w32 n) beyond sign (small n h)

pub signed-same : (v w : ℕ) → v < 2 ^ 32 → w < 2 ^ 32 → signed v ≡ signed w → v ≡ w
unfolding signed
signed-same v w hv hw same =
    let cast : cast_signed w32 v ≡ cast_signed w32 w = signed_decimal_injective (cast_signed w32 v) (cast_signed w32 w) (small v hv) (small w hw) same in
    sym (of_z-to_z w32 v hv) ∙ ap (cast_unsigned w32) cast ∙ of_z-to_z w32 w hw

padded_more : (d e : ℕ) (ds : List ℕ) (b : Bool) → (d == 48) ≡ b → ((k : ℕ) × (e ∷ ds ≡ replicate k 48 ++ trimmed (e ∷ ds)))
    → (k : ℕ) × (d ∷ e ∷ ds ≡ replicate k 48 ++ cond b (trimmed (e ∷ ds)) (d ∷ e ∷ ds))
padded_more d e ds true h later =
    let first : d ≡ 48 = eqb-true d 48 h in (suc later.0, ap (λ x. x ∷ e ∷ ds) first ∙ ap (λ l. 48 ∷ l) later.1)
padded_more d e ds false h later = (0, refl)

-- digits, by those that are left of them
padded : (ds : List ℕ) → (k : ℕ) × (ds ≡ replicate k 48 ++ trimmed ds)
padded [] = (0, refl)
padded (d ∷ []) = (0, refl)
padded (d ∷ e ∷ ds) = padded_more d e ds (d == 48) refl (padded (e ∷ ds))

trimmed-same : (xs ys : List ℕ) → length xs ≡ length ys → trimmed xs ≡ trimmed ys → xs ≡ ys
trimmed-same xs ys long same =
    let a = padded xs in
    let b = padded ys in
    let la : length xs ≡ a.0 + length (trimmed xs) = ap length a.1 ∙ length-append (replicate a.0 48) (trimmed xs) ∙ ap (λ n. n + length (trimmed xs)) (length-replicate a.0 48) in
    let lb : length ys ≡ b.0 + length (trimmed ys) = ap length b.1 ∙ length-append (replicate b.0 48) (trimmed ys) ∙ ap (λ n. n + length (trimmed ys)) (length-replicate b.0 48) in
    let lc : length (trimmed xs) ≡ length (trimmed ys) = ap length same in
    let k : a.0 ≡ b.0 = omega arith in
    a.1 ∙ ap (λ l. replicate a.0 48 ++ l) same ∙ ap (λ n. replicate n 48 ++ trimmed ys) k ∙ sym b.1

pub upper-same : (v w : ℕ) → v < 2 ^ 32 → w < 2 ^ 32 → v % 2 ^ 12 ≡ 0 → w % 2 ^ 12 ≡ 0 → upper v ≡ upper w → v ≡ w
unfolding upper
upper-same v w hv hw lv lw same =
    let digits : trimmed (hexadecimal (v / 2 ^ 12)) ≡ trimmed (hexadecimal (w / 2 ^ 12)) = tail-same _ _ _ _ (tail-same _ _ _ _ same) in
    let long : length (hexadecimal (v / 2 ^ 12)) ≡ length (hexadecimal (w / 2 ^ 12)) = hexadecimal-length (v / 2 ^ 12) ∙ sym (hexadecimal-length (w / 2 ^ 12)) in
    let high : v / 2 ^ 12 ≡ w / 2 ^ 12 = hexadecimal-same (v / 2 ^ 12) (w / 2 ^ 12) (omega arith) (omega arith) (trimmed-same _ _ long digits) in
    omega arith
