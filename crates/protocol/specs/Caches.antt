-- How many lines a hart can hold. The rows ask only which line has to be evicted before a block can be filled: a function from the
-- block to the victim's block, None where there is room.
--
-- A cache of so many sets and ways holds a block in the set that is its number modulo the sets. Which of a full set's lines makes
-- way is left open here: the program's cache has a rule of its own. LogTM (HPCA 2006) too speaks of replaced lines, and not of
-- which.
use Rattle.std.specs.Prelude.{ℕ, ◌≡◌, ◌≢◌, ◌<◌, ◌%◌, Option, Some, None, List, length, IsSome, All, AllPairs, Contains}
use Rattle.protocol.specs.Lines.{Line}

pub record Geometry : Type 0 where
  pub sets : ℕ
  pub ways : ℕ

-- a block that has a line, in the set of block b
abbrev pub StandsBeside : Geometry → (ℕ → Option Line) → ℕ → ℕ → Type 0
StandsBeside g lines b c = (c % g.sets ≡ b % g.sets) × IsSome (lines c)

-- the lines in the set of block b are those of fewer blocks than it has ways
abbrev pub HasRoom : Geometry → (ℕ → Option Line) → ℕ → Type 0
HasRoom g lines b = (held : List ℕ) × (length held < g.ways) × ((c : ℕ) → StandsBeside g lines b c → Contains held c)

-- in the set of block b as many blocks as it has ways have lines
abbrev pub IsFull : Geometry → (ℕ → Option Line) → ℕ → Type 0
IsFull g lines b = (held : List ℕ) × (length held ≡ g.ways) × AllPairs (λ c d. c ≢ d) held × All (StandsBeside g lines b) held

-- no victim where the set has room, and one of the set's lines where it is full
abbrev pub MayName : Geometry → (ℕ → Option Line) → ℕ → Option ℕ → Type 0
MayName g lines b None = HasRoom g lines b
MayName g lines b (Some v) = IsFull g lines b × StandsBeside g lines b v
