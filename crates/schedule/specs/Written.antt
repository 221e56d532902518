-- Choices as the lines of a schedule.
use Rattle.std.specs.Prelude.{ℕ, ◌<◌, ◌*◌, ◌^◌, ◌++◌, List, [], ◌∷◌, codes, decimal}
use Rattle.std.specs.List.{concat, flat_map}
use Rattle.words.specs.Limits.{most_harts, block_bytes}
use Rattle.texts.specs.Numerals.{hexadecimal}
use Rattle.schedule.specs.declared.choices.Choice.{Choice}
use Rattle.schedule.specs.declared.choices.Choice.TheVariants.{Core, Evict, Deliver, Turn}
use Rattle.schedule.specs.Spelling.{sort_name}

-- the address of a block's first word
abbrev pub address_of : ℕ → List ℕ
address_of block = hexadecimal (block_bytes * block)

-- the line that spells a choice
abbrev pub line_of : Choice → List ℕ
line_of (Core hart) = concat (codes "core " ∷ decimal hart ∷ [])
line_of (Evict hart block) = concat (codes "evict " ∷ decimal hart ∷ codes " 0x" ∷ address_of block ∷ [])
line_of (Deliver name) = concat (codes "deliver " ∷ sort_name name.sort ∷ codes " " ∷ decimal name.hart ∷ codes " 0x" ∷ address_of name.block ∷ [])
line_of Turn = codes "turn"

-- the lines of choices, in order, each with its line feed
abbrev pub text_of : List Choice → List ℕ
text_of choices = flat_map (λ c. line_of c ++ codes "\n") choices

-- a block has an address
abbrev pub HasAddress : ℕ → Type 0
HasAddress block = block_bytes * block < 2 ^ 32

-- a choice whose line can be read again: it names a hart and a block that a line can name, or it is a turn's
abbrev pub IsReadable : Choice → Type 0
IsReadable (Core hart) = hart < most_harts
IsReadable (Evict hart block) = (hart < most_harts) × HasAddress block
IsReadable (Deliver name) = (name.hart < most_harts) × HasAddress name.block
IsReadable Turn = Unit {0}

-- a choice of one step, of a hart and a block that its line can name
abbrev pub IsWritable : Choice → Type 0
IsWritable (Core hart) = hart < most_harts
IsWritable (Evict hart block) = (hart < most_harts) × HasAddress block
IsWritable (Deliver name) = (name.hart < most_harts) × HasAddress name.block
IsWritable Turn = ⊥
