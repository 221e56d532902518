-- Where the lines of a cache stand, from one step of its hart to the next.
use Rattle.std.specs.Prelude.{ℕ, ◌≡◌, ◌≢◌, ◌%◌, ◌⊎◌, Some, None, length, position}
use Rattle.cache.specs.declared.line.Line.{Line}
use Rattle.cache.specs.Ways.{holds, is_free}
use Rattle.cache.specs.Sets.{Sets, ways_at, at}

-- a line of the same block stood in this way
pub record HasStood (old : Sets) (s w : ℕ) (m : Line) : Type 0 where
  pub line : Line
  pub here : at old s w ≡ Some line
  pub block : line.block ≡ m.block

-- the line's block had none in its set, and this is the lowest way of the set that was free
pub record ComesIn (count : ℕ) (old : Sets) (s w : ℕ) (m : Line) : Type 0 where
  pub placed : m.block % count ≡ s
  pub absent : position (holds m.block) (ways_at old s) ≡ None
  pub free : position is_free (ways_at old s) ≡ Some w

-- a line that stays stands where it stood, and a block that gets one gets the lowest free way of its set
pub record KeepsWays (count : ℕ) (old new : Sets) : Type 0 where
  pub sizes : (s : ℕ) → length (ways_at new s) ≡ length (ways_at old s)
  pub lines : (s w : ℕ) (m : Line) → at new s w ≡ Some m → HasStood old s w m ⊎ ComesIn count old s w m

-- a line stands in the set of its block, in which no other way has the block
pub record StandsAlone (count : ℕ) (sets : Sets) (s w : ℕ) (m : Line) : Type 0 where
  pub placed : m.block % count ≡ s
  pub alone : (v : ℕ) (n : Line) → v ≢ w → at sets s v ≡ Some n → n.block ≢ m.block

-- and so do all lines of a cache with so many sets
abbrev pub IsLaidOut : ℕ → Sets → Type 0
IsLaidOut count sets = (s w : ℕ) (m : Line) → at sets s w ≡ Some m → StandsAlone count sets s w m

-- in two such caches the same lines stand in the same ways
pub record AreLaidAlike (count : ℕ) (one other : Sets) : Type 0 where
  pub laid : IsLaidOut count one
  pub ways : (s : ℕ) → ways_at one s ≡ ways_at other s
