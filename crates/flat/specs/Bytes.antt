-- Maps from numbers, as from addresses to bytes, with new values.
use Rattle.std.specs.Prelude.{ℕ, cond, ◌&&◌, ◌==◌, nat_le, nat_lt, ◌+◌, ◌-◌}

-- old, with v at i
abbrev pub put_at : {A : Type 0} → ℕ → A → (ℕ → A) → ℕ → A
put_at i v old j = cond (j == i) v (old j)

-- old, with n new values from an address on
abbrev pub laid : {A : Type 0} → ℕ → ℕ → (ℕ → A) → (ℕ → A) → ℕ → A
laid addr n new old a = cond (nat_le addr a && nat_lt a (addr + n)) (new (a - addr)) (old a)
