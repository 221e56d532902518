-- What a program is.
use Rattle.std.specs.Prelude.{◌≡◌, ℕ, ◌+◌, ◌%◌, ◌<◌, ◌≤◌, IsTrue, IsSome, List, [], ◌∷◌, length}
use Rattle.std.specs.List.{AllByRecursion}
use Rattle.table.specs.Program.{Segment, holds, word_at}

-- the address of its first instruction, and the stretches of memory that it begins with
pub record Program : Type 0 where
  pub entry : ℕ
  pub segments : List Segment

-- what each segment of a program is: it has a byte, what is given of it is no longer than itself, and it ends within 4 MiB
pub record IsSegment (s : Segment) : Type 0 where
  pub some_byte : 0 < s.size
  pub given : length s.bytes ≤ s.size
  pub end : s.addr + s.size ≤ 4194304

-- no byte of memory lies in both segments
abbrev pub IsApart : Segment → Segment → Type 0
IsApart s t = (a : ℕ) → IsTrue (holds s a 1) → IsTrue (holds t a 1) → ⊥

-- no two of the segments share a byte
abbrev pub AreApart : List Segment → Type 0
AreApart [] = Unit {0}
AreApart (s ∷ ss) = AllByRecursion (IsApart s) ss × AreApart ss

-- what an entry and segments have to be for a program
pub record IsProgram (p : Program) : Type 0 where
  pub each : AllByRecursion IsSegment p.segments
  pub apart : AreApart p.segments
  pub few : length p.segments ≤ 65535
  pub aligned : p.entry % 4 ≡ 0
  pub fetched : IsSome (word_at p.segments p.entry)
