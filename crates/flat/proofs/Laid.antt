-- Values laid over a map from an address on.
use Rattle.std.proofs.Common.{◌≡◌, ◌≢◌, ◌<◌, ◌≤◌, ◌+◌, ◌-◌, ◌/◌, ◌%◌, ℕ, arith, List, length, cond, true, false, refl}
use Rattle.std.specs.Prelude.{◌&&◌, nat_le, nat_lt, ◌==◌, slice_index, slice_set}
use Rattle.std.proofs.lemmas.Bool.Decides.{nat_tests}
use Rattle.std.proofs.lemmas.Grind.{get_or-set_at}
use Rattle.std.proofs.lemmas.List.{get_or-set_other}
use Rattle.words.specs.declared.entry.Width.{Width}
use Rattle.words.specs.declared.entry.Width.TheVariants.{Byte, Half, Word}
use Rattle.words.specs.Bytes.{bytes_in}
use Rattle.flat.specs.Bytes.{laid, put_at}

-- to lay no value changes nothing
pub laid_no_more : {A : Type 0} (addr : ℕ) (new old : ℕ → A) (a : ℕ) → laid addr 0 new old a ≡ old a
laid_no_more addr new old a = grind (arith, nat_tests)

-- to lay one value more is to put it at the next address
pub laid_one_more : {A : Type 0} (addr n : ℕ) (new old : ℕ → A) (a : ℕ) → laid addr (n + 1) new old a ≡ put_at (addr + n) (new n) (laid addr n new old) a
laid_one_more addr n new old a = elim (a == (addr + n)) as (λ b. (a == (addr + n)) ≡ b → cond (nat_le addr a && nat_lt a (addr + (n + 1))) (new (a - addr)) (old a) ≡ cond b (new n) (laid addr n new old a)) [
  | true ↦ λ e. grind (arith, nat_tests)
  | false ↦ λ e. grind (arith, nat_tests)
] refl

-- a list after a write is a map after a change
pub index_put : (xs : List ℕ) (i v a : ℕ) → i < length xs → slice_index (slice_set xs i v) a ≡ put_at i v (λ j. slice_index xs j) a
index_put xs i v a h = grind (arith, nat_tests, get_or-set_at, get_or-set_other)

-- an address outside of a range
in_range : {A : Type 0} (addr n a : ℕ) (x y : A) → (addr ≤ a → a < addr + n → ⊥) → cond (nat_le addr a && nat_lt a (addr + n)) x y ≡ y
in_range addr n a x y h = grind (arith, nat_tests)

-- an address of another block lies outside of it
one_block : (addr n a : ℕ) → addr % 32 + n ≤ 32 → a / 32 ≢ addr / 32 → addr ≤ a → a < addr + n → ⊥
one_block addr n a fits ne lo hi = let e : a / 32 ≡ addr / 32 = omega arith in ne e

-- values that lie in one block change no other
pub laid_elsewhere : {A : Type 0} (addr n : ℕ) (new old : ℕ → A) (a : ℕ) → addr % 32 + n ≤ 32 → a / 32 ≢ addr / 32 → laid addr n new old a ≡ old a
laid_elsewhere addr n new old a fits ne = in_range addr n a (new (a - addr)) (old a) (one_block addr n a fits ne)

-- an access at a multiple of its width lies in one block
pub in_one_block : (addr : ℕ) (w : Width) → addr % bytes_in w ≡ 0 → addr % 32 + bytes_in w ≤ 32
in_one_block addr Byte e = omega arith
in_one_block addr Half e = omega arith
in_one_block addr Word e = omega arith
