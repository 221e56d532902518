-- The digits of an address.
use Rattle.std.proofs.Common.{◌≡◌, ℕ, ◌/◌, ◌%◌, ◌^◌, arith}
use Rattle.texts.specs.Numerals.{hexadecimal}

-- a word has 32 bits
pub hexadecimal-modulo : (n : ℕ) → hexadecimal (n % 2 ^ 32) ≡ hexadecimal n
unfolding hexadecimal
hexadecimal-modulo n =
    let a : n % 2 ^ 32 / 2 ^ 28 % 16 ≡ n / 2 ^ 28 % 16 = omega arith in
    let b : n % 2 ^ 32 / 2 ^ 24 % 16 ≡ n / 2 ^ 24 % 16 = omega arith in
    let c : n % 2 ^ 32 / 2 ^ 20 % 16 ≡ n / 2 ^ 20 % 16 = omega arith in
    let d : n % 2 ^ 32 / 2 ^ 16 % 16 ≡ n / 2 ^ 16 % 16 = omega arith in
    let e : n % 2 ^ 32 / 2 ^ 12 % 16 ≡ n / 2 ^ 12 % 16 = omega arith in
    let f : n % 2 ^ 32 / 2 ^ 8 % 16 ≡ n / 2 ^ 8 % 16 = omega arith in
    let g : n % 2 ^ 32 / 2 ^ 4 % 16 ≡ n / 2 ^ 4 % 16 = omega arith in
    let h : n % 2 ^ 32 / 2 ^ 0 % 16 ≡ n / 2 ^ 0 % 16 = omega arith in
    rw (a, b, c, d, e, f, g, h)
