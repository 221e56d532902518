-- What it means that a symbol is the nearest to an address, and that the one that is found is.
use Rattle.std.specs.Prelude.{ℕ, ◌≡◌, ◌==◌, ◌<◌, ◌≤◌, All, List, Option, Some, None}
use Rattle.std.specs.List.{filter, last_or}
use Rattle.disassembler.specs.declared.symbol.Symbol.{Symbol}
use Rattle.disassembler.specs.Names.{nearest}

-- another one lies above the address, or no nearer to it
abbrev pub IsNoNearer : ℕ → Symbol → Symbol → Type 0
IsNoNearer a s t = t.address ≤ a → t.address ≤ s.address

-- the symbol lies at or below the address, none that does has a greater address, and of those with its address it is the last in the table
pub record IsNearest (symbols : List Symbol) (a : ℕ) (s : Symbol) : Type 0 where
  pub below : s.address ≤ a
  pub most : All (IsNoNearer a s) symbols
  pub last : last_or None (filter (λ t. t.address == s.address) symbols) ≡ Some s

-- what is found is the nearest symbol; and where nothing is, all lie above
abbrev pub FindsNearest : List Symbol → ℕ → Option Symbol → Type 0
FindsNearest symbols a None = All (λ s. a < s.address) symbols
FindsNearest symbols a (Some s) = IsNearest symbols a s

abbrev pub NearestIsFound : Type 0
NearestIsFound = (symbols : List Symbol) (a : ℕ) → FindsNearest symbols a (nearest symbols a)
