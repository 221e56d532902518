-- Counts as text.
use Rattle.std.specs.Prelude.{ℕ, ◌-◌, ◌++◌, List, [], ◌∷◌, Option, Some, None, codes, decimal, length, map, take}
use Rattle.std.specs.List.{concat, flat_map, range_with_len}
use Rattle.watch.specs.declared.kinds.Kind.{Kind}
use Rattle.watch.specs.declared.kinds.Kind.TheVariants.{Retired, Begun, Committed, Asked, Conflicted, LogFull, Trapped, Refused, WasRefused, Spilled, LoadHit, LoadMissed, StoreHit, StoreMissed, Upgraded, Held}

-- the kinds, in the order in which they are shown
abbrev pub kinds : List Kind
kinds = Retired ∷ Begun ∷ Committed ∷ Asked ∷ Conflicted ∷ LogFull ∷ Trapped ∷ Refused ∷ WasRefused ∷ Spilled ∷ LoadHit ∷ LoadMissed ∷ StoreHit ∷ StoreMissed ∷ Upgraded ∷ Held ∷ []

-- what a kind is called
abbrev pub kind_name : Kind → List ℕ
kind_name Retired = codes "retired"
kind_name Begun = codes "begun"
kind_name Committed = codes "committed"
kind_name Asked = codes "aborted-asked"
kind_name Conflicted = codes "aborted-conflict"
kind_name LogFull = codes "aborted-logfull"
kind_name Trapped = codes "aborted-trap"
kind_name Refused = codes "refused"
kind_name WasRefused = codes "was-refused"
kind_name Spilled = codes "spilled"
kind_name LoadHit = codes "load-hits"
kind_name LoadMissed = codes "load-misses"
kind_name StoreHit = codes "store-hits"
kind_name StoreMissed = codes "store-misses"
kind_name Upgraded = codes "upgrades"
kind_name Held = codes "held"

-- n blanks, up to 17
abbrev pub blanks : ℕ → List ℕ
blanks n = take n (codes "                 ")

-- ---- a table

-- its rows: one with the heads of the columns, and then one for each kind
abbrev pub rows : List (Option Kind)
rows = None ∷ map Some kinds

-- a row begins with its name, in 17 columns
abbrev pub name_of : Option Kind → List ℕ
name_of None = []
name_of (Some kind) = kind_name kind

abbrev pub row_name : Option Kind → List ℕ
row_name row = concat (name_of row ∷ blanks (17 - length (name_of row)) ∷ [])

-- the head of a hart's column, and a count in it, which has 11 columns or as many as its digits
abbrev pub head : ℕ → List ℕ
head hart = concat (codes "     hart " ∷ decimal hart ∷ [])

abbrev pub count_cell : ℕ → List ℕ
count_cell n = concat (blanks (11 - length (decimal n)) ∷ decimal n ∷ [])

-- ---- lines for scripts

-- the hart's number, what is counted, and how many
abbrev pub count_line : ℕ → Kind → ℕ → List ℕ
count_line hart kind n = concat (decimal hart ∷ codes "," ∷ kind_name kind ∷ codes "," ∷ decimal n ∷ codes "\n" ∷ [])

-- these are the counts, by hart and kind
module _ (count : ℕ → Kind → ℕ) where
  abbrev pub cell : Option Kind → ℕ → List ℕ
  cell None hart = head hart
  cell (Some kind) hart = count_cell (count hart kind)

  -- a row with a column for each of so many harts
  abbrev pub row_text : ℕ → Option Kind → List ℕ
  row_text harts row = row_name row ++ (flat_map (cell row) (range_with_len 0 harts) ++ codes "\n")

  -- the table of so many harts
  abbrev pub table : ℕ → List ℕ
  table harts = flat_map (row_text harts) rows

  abbrev pub csv_line : ℕ → Kind → List ℕ
  csv_line hart kind = count_line hart kind (count hart kind)

  -- the lines of a hart
  abbrev pub csv_lines : ℕ → List ℕ
  csv_lines hart = flat_map (csv_line hart) kinds

  -- those of so many harts, behind a line with the names of their parts
  abbrev pub csv : ℕ → List ℕ
  csv harts = codes "hart,what,count\n" ++ flat_map csv_lines (range_with_len 0 harts)
