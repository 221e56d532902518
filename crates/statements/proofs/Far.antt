-- A number that is kept as 2^40 is 2^40 or more.
use Rattle.std.proofs.Common.{◌≡◌, ℕ, ◌+◌, ◌*◌, ◌^◌, ◌≤◌, min, arith}

-- a digit more makes a far number no nearer
pub capped_step : (n base digit : ℕ) → 1 ≤ base → base ≤ 16 → min (min n (2 ^ 40) * base + digit) (2 ^ 40) ≡ min (n * base + digit) (2 ^ 40)
capped_step n base digit low high = grind arith

pub capped_once : (n : ℕ) → min (min n (2 ^ 40)) (2 ^ 40) ≡ min n (2 ^ 40)
capped_once n = omega arith
