-- Numbers of two digits.
use Rattle.std.proofs.Common.{◌≡◌, ℕ, ◌<◌, ◌≤◌, ◌/◌, ◌%◌, ◌++◌, decimal, ap, sym, ◌∙◌, arith}
use Rattle.std.proofs.lemmas.Fmt.{decimal_digit, decimal_step}

-- a number's digits, from those of its quotient and its remainder
pub two_digits : (n : ℕ) → 10 ≤ n → n < 100 → decimal n ≡ decimal (n / 10) ++ decimal (n % 10)
two_digits n most few =
    let front = decimal_step n most (omega arith) in
    front ∙ ap (λ l. decimal (n / 10) ++ l) (sym (decimal_digit (n % 10) (omega arith)))
