-- Runs by moves, and their ends.
use Rattle.std.specs.Prelude.{ℕ, ◌≡◌, ◌≢◌, ◌<◌, List, [], ◌∷◌, ◌++◌}
use Rattle.words.specs.declared.entry.Entry.{Entry}
use Rattle.words.specs.declared.cause.Status.TheVariants.{Running}
use Rattle.flat.specs.State.{Flat}
use Rattle.isolation.specs.Moves.{Place, Leads, LeadsInOrder}

-- no hart runs any more
abbrev pub IsEnded : Flat → Type 0
IsEnded f = (i : ℕ) → i < f.setting.count → (f.hart i).status ≢ Running

-- moves, one after another, each with its entries
abbrev pub Walks : Place → List (List Entry) → Place → Type 0
Walks p [] q = q ≡ p
Walks p (es ∷ rest) q = (k : Place) × Leads p es k × Walks k rest q

-- the same with the moves of the search alone
abbrev pub WalksInOrder : Place → List (List Entry) → Place → Type 0
WalksInOrder p [] q = q ≡ p
WalksInOrder p (es ∷ rest) q = (k : Place) × LeadsInOrder p es k × WalksInOrder k rest q

-- the entries of all moves, in order
abbrev pub entries_of : List (List Entry) → List Entry
entries_of [] = []
entries_of (es ∷ rest) = es ++ entries_of rest
