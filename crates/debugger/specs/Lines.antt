-- The lines of an input.
use Rattle.std.specs.Prelude.{ℕ, ◌≡◌, ◌≢◌, ◌+◌, ◌++◌, All, List, [], ◌∷◌, min, take, Option}
use Rattle.std.specs.Io.KnownBytes.{Consumes, IsAtEnd}
use Rattle.std.specs.Str.Lines.{strip_carriage_return}
use Rattle.debugger.specs.declared.input.Reading.{Reading}
use Rattle.debugger.specs.declared.input.Reading.TheVariants.{Line, Last, Failed}

-- so many bytes of a line are kept
abbrev pub kept : List ℕ → List ℕ
kept line = take 257 line

abbrev pub without_return : List ℕ → List ℕ
without_return line = strip_carriage_return line

-- a line has no line feed
abbrev pub IsLine : List ℕ → Type 0
IsLine line = All (λ c. c ≢ 10) line

-- a reading that failed is counted, up to the greatest number of 64 bits, and no other
abbrev pub Counts : Reading → ℕ → ℕ → Type 0
Counts Failed before after = after ≡ min (before + 1) 18446744073709551615
Counts other before after = after ≡ before

-- what is read of bytes, where they are known: the line up to the first line feed, or what is left, which has none. Nothing is said of a read that failed
abbrev pub Gives : Option (List ℕ) → Reading → Option (List ℕ) → Type 0
Gives old (Line l) new = (line : List ℕ) × IsLine line × (l.items ≡ kept line) × Consumes old new (line ++ 10 ∷ [])
Gives old (Last l) new = (line : List ℕ) × (rest : Option (List ℕ)) × IsLine line × (l.items ≡ kept line) × Consumes old rest line × IsAtEnd rest
Gives old Failed new = Unit {0}
