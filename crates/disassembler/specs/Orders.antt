-- Symbols by their addresses.
use Rattle.std.specs.Prelude.{ℕ, ◌≡◌, ◌==◌, List}
use Rattle.std.specs.List.{filter}
use Rattle.std.specs.List.Sorted.{IsNonDecreasingBy, IsPermutation}
use Rattle.disassembler.specs.declared.symbol.Symbol.{Symbol}

-- by rising address
abbrev pub IsRising : List Symbol → Type 0
IsRising symbols = IsNonDecreasingBy (λ s. s.address) symbols

-- the same symbols by rising address, those at one address in their order
pub record IsInOrder (symbols rising : List Symbol) : Type 0 where
  pub moved : IsPermutation symbols rising
  pub rises : IsRising rising
  pub kept : (a : ℕ) → filter (λ s. s.address == a) rising ≡ filter (λ s. s.address == a) symbols
