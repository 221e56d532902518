-- A cache as its sets, each the list of its ways, and the map from block to line that they make.
use Rattle.std.specs.Prelude.{ℕ, ◌≡◌, ◌≢◌, ◌<◌, ◌*◌, ◌/◌, ◌%◌, ◌^◌, Bool, Option, Some, None, List, [], length, IsTrue, IsSome, IfSome, get_or, slice_set, position}
use Rattle.std.specs.Option.{option_map, option_map_or}
use Rattle.words.specs.declared.entry.Width.{Width}
use Rattle.cache.specs.declared.line.Line.{Line}
use Rattle.words.specs.declared.message.LineState.TheVariants.{Shared, Modified}
use Rattle.cache.specs.declared.ways.Victim.{Victim}
use Rattle.cache.specs.declared.ways.Victim.TheVariants.{Free, Drop, WriteBack}
use Rattle.words.specs.Bytes.{bytes_in}
use Rattle.cache.specs.Bytes.{PutsBytes}
use Rattle.cache.specs.Ways.{holds, is_free, line_in, victim_in}

-- what a cache has: for each set the line in each way, if there is one
abbrev pub Sets : Type 0
Sets = List (List (Option Line))

-- the ways of a set
abbrev pub ways_at : Sets → ℕ → List (Option Line)
ways_at sets s = get_or sets s []

-- what stands in a way of a set
abbrev pub at : Sets → ℕ → ℕ → Option Line
at sets s w = get_or (ways_at sets s) w None

-- the line of a block in a cache of so many sets
unfoldable pub line_at : ℕ → Sets → ℕ → Option Line
line_at count sets b = line_in b (ways_at sets (b % count))

-- the way of its set in which the block's line stands
unfoldable pub way_at : ℕ → Sets → ℕ → Option ℕ
way_at count sets b = position (holds b) (ways_at sets (b % count))

-- the set of the block has a free way
unfoldable pub HasRoom : ℕ → Sets → ℕ → Type 0
HasRoom count sets b = IsSome (position is_free (ways_at sets (b % count)))

-- what has to go before the block can be filled
unfoldable pub victim_at : ℕ → Sets → ℕ → Victim
victim_at count sets b = victim_in (ways_at sets (b % count))

-- the sets with one way changed
abbrev pub with_way : Sets → ℕ → ℕ → Option Line → Sets
with_way sets s w x = slice_set sets s (slice_set (ways_at sets s) w x)

-- the sets with this in the lowest way of the block's set that passes a test; as they are where none passes
unfoldable pub with_first : (Option Line → Bool) → ℕ → Sets → ℕ → Option Line → Sets
with_first test count sets b x = option_map_or (λ w. with_way sets (b % count) w x) (position test (ways_at sets (b % count))) sets

-- the block's line becomes this, in the lowest way of its set that passes a test; every other block's line and every
-- other way stay
pub record SetsLine (test : Option Line → Bool) (count : ℕ) (old new : Sets) (b : ℕ) (x : Option Line) : Type 0 where
  pub this : line_at count new b ≡ x
  pub others : (a : ℕ) → a ≢ b → line_at count new a ≡ line_at count old a
  pub ways : new ≡ with_first test count old b x

-- the block gets this line, in the lowest free way of its set
abbrev pub FillsLine : ℕ → Sets → Sets → ℕ → Line → Type 0
FillsLine count old new b l = SetsLine is_free count old new b (Some l)

-- the block's line is changed so, in its way
abbrev pub ChangesLine : ℕ → Sets → Sets → ℕ → (Line → Line) → Type 0
ChangesLine count old new b f = SetsLine (holds b) count old new b (option_map f (line_at count old b))

-- the block has no line any more, if it had one
abbrev pub RemovesLine : ℕ → Sets → Sets → ℕ → Type 0
RemovesLine count old new b = SetsLine (holds b) count old new b None

-- the bytes of an access are the low bytes of the value now, and the other bytes of its block's line are as they were
abbrev pub StoresBytes : ℕ → Sets → Sets → ℕ → Width → ℕ → Type 0
StoresBytes count old new addr width v =
    IfSome (line_at count old (addr / 32)) (λ l. IfSome (line_at count new (addr / 32)) (λ m. PutsBytes l.content m.content (addr % 32) (bytes_in width) v))

-- the cache has this line of the block, where it is looked up
pub record IsInSet (count : ℕ) (sets : Sets) (b : ℕ) (l : Line) : Type 0 where
  pub here : line_at count sets l.block ≡ Some l
  pub same_set : l.block % count ≡ b % count

-- a victim is nothing where there is room, and else a line of the block's set
abbrev pub GoesFor : ℕ → Sets → ℕ → Victim → Type 0
GoesFor count sets b Free = HasRoom count sets b
GoesFor count sets b (Drop l) = IsInSet count sets b l × (l.state ≡ Shared)
GoesFor count sets b (WriteBack l) = IsInSet count sets b l × (l.state ≢ Shared)

-- a line may stand in this way of the set: it is the block's set, no other way has the block, and it is marked
-- as written only if it is modified
pub record CanStand (count : ℕ) (sets : Sets) (s w : ℕ) (l : Line) : Type 0 where
  pub placed : l.block % count ≡ s
  pub alone : (v : ℕ) (m : Line) → v ≢ w → at sets s v ≡ Some m → m.block ≢ l.block
  pub owned : IsTrue l.marks.written → l.state ≡ Modified

-- what a cache of so many sets, of so many ways each, keeps
pub record IsSound (count size : ℕ) (sets : Sets) : Type 0 where
  pub some_set : 0 < count
  pub some_way : 0 < size
  pub fits : count * size < 2 ^ 32
  pub full : (s : ℕ) → s < count → length (ways_at sets s) ≡ size
  pub lines : (s w : ℕ) (l : Line) → at sets s w ≡ Some l → CanStand count sets s w l
