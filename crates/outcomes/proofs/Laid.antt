-- One more byte of a number.
use Rattle.std.proofs.Common.{◌≡◌, ◌+◌, ◌-◌, ℕ, arith, Bool, true, false, cond, refl, sym, ap, ◌∙◌}
use Rattle.std.specs.Prelude.{◌==◌}
use Rattle.std.proofs.lemmas.Bool.Decides.{nat_tests}
use Rattle.flat.specs.Bytes.{laid, put_at}

pub laid_more : (addr k : ℕ) (new old mem : ℕ → ℕ) (a : ℕ) → mem a ≡ laid addr k new old a → put_at (addr + k) (new k) mem a ≡ laid addr (k + 1) new old a
laid_more addr k new old mem a is = by (a == addr + k) refl where
  by : (t : Bool) → (a == addr + k) ≡ t → cond t (new k) (mem a) ≡ laid addr (k + 1) new old a
  by true e = let same : k ≡ a - addr = grind (arith, nat_tests) in let n : new k ≡ new (a - addr) = ap new same in grind (arith, nat_tests)
  by false e = grind (arith, nat_tests)
