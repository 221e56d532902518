-- Numbers in two's complement, as decimals.
use Rattle.std.proofs.Common.{◌≡◌, ℕ, ◌+◌, ◌-◌, ◌<◌, ◌^◌, ◌++◌, ◌∷◌, suc, decimal, codes, ap, ◌∙◌, arith, pos, negsuc, le-ltb}
use Rattle.std.proofs.lemmas.Int.{ints}
use Rattle.std.specs.Int.{w32, cast_signed}
use Rattle.std.specs.Fmt.{signed_decimal}
use Rattle.disassembler.specs.Canonical.{signed}

pub signed-small : (n : ℕ) → n < 100 → signed n ≡ decimal n
unfolding signed
signed-small n few =
    let same : cast_signed w32 n ≡ pos n = omega (arith, ints) in
    ap signed_decimal same

pub signed-negative : (n : ℕ) → 4294967196 < n → n < 2 ^ 32 → signed n ≡ codes "-" ++ decimal (4294967295 - n + 1)
unfolding signed
signed-negative n most few =
    let same : cast_signed w32 n ≡ negsuc (2 ^ 32 - suc n) = rw (le-ltb n (2 ^ 31) (omega arith)) in
    let size : suc (2 ^ 32 - suc n) ≡ 4294967295 - n + 1 = omega arith in
    ap signed_decimal same ∙ ap (λ m. 45 ∷ decimal m) size
