-- What stands in a picture: lanes, bars, arrows and steps, each a line of SVG.
use Rattle.std.specs.Prelude.{ℕ, ◌+◌, ◌*◌, ◌++◌, min, Option, Some, None, List, [], ◌∷◌, codes, decimal}
use Rattle.std.specs.List.{concat}
use Rattle.words.specs.declared.entry.Entry.{Entry}
use Rattle.words.specs.declared.entry.Entry.TheVariants.{Retire, Abort, Trap, Refuse, Spill}
use Rattle.words.specs.declared.entry.Step.{Step}
use Rattle.words.specs.declared.entry.Step.TheVariants.{Core, Evict, Deliver}
use Rattle.timeline.specs.Marks.{label_of}
use Rattle.timeline.specs.declared.row.Row.{Row}
use Rattle.timeline.specs.Rows.{lane_in}

-- where the columns stand, in pixels, from the left, and the rows, from the top
abbrev pub x_at : ℕ → ℕ
x_at column = 440 * column + 100

abbrev pub y_at : ℕ → ℕ
y_at number = 20 * number + 70

-- a row stands in the column of its lane; the directory has the one behind so many harts
abbrev pub x_of : ℕ → Row → ℕ
x_of harts row = x_at (min (lane_in row) harts)

abbrev pub y_of : Row → ℕ
y_of row = y_at row.number

-- a lane, up to its name: a line down to the bottom of so many rows, and a box
abbrev pub lifeline : ℕ → ℕ → List ℕ
lifeline rows column = concat (
    codes "<g transform=\"translate(" ∷ decimal (x_at column) ∷ codes ",0)\"><path class=\"life\" d=\"M0,40V" ∷ decimal (y_at rows) ∷ codes "\"/><rect class=\"name\" x=\"-45\" y=\"16\" width=\"90\" height=\"24\" rx=\"4\"/><text class=\"name\" y=\"32\">" ∷ [])

-- a bar of a class, in a column, from one height down to another
abbrev pub bar : List ℕ → ℕ → ℕ → ℕ → List ℕ
bar class x from to = concat (codes "<path class=\"" ∷ class ∷ codes "\" d=\"M" ∷ decimal x ∷ codes "," ∷ decimal from ∷ codes "V" ∷ decimal to ∷ codes "\"/>\n" ∷ [])

-- an arrow from one row to another
abbrev pub arrow : ℕ → Row → Row → List ℕ
arrow harts from to = concat (
    codes "<path class=\"arrow\" d=\"M" ∷ decimal (x_of harts from) ∷ codes "," ∷ decimal (y_of from) ∷ codes "L" ∷ decimal (x_of harts to) ∷ codes "," ∷ decimal (y_of to) ∷ codes "\"/>\n" ∷ [])

-- what a step is drawn as
abbrev pub class_of : Step → Option Entry → List ℕ
class_of step (Some (Retire hart pc word write load store)) = codes "retire"
class_of step (Some (Abort hart cause)) = codes "abort"
class_of step (Some (Trap hart cause pc)) = codes "trap"
class_of step (Some (Refuse hart requester block)) = codes "refuse"
class_of step (Some (Spill hart block)) = codes "spill"
class_of (Core hart) None = codes "core"
class_of (Evict hart block) None = codes "evict"
class_of (Deliver number) None = codes "arrival"

-- a row's number, at the left
abbrev pub number_mark : Row → List ℕ
number_mark row = concat (codes "<text class=\"number\" x=\"46\" y=\"" ∷ decimal (y_of row) ∷ codes "\" dy=\"4\">" ∷ decimal row.number ∷ codes "</text>" ∷ [])

-- its mark, and the text of its step. Such a text has letters, digits, spaces and the characters , - . ( ) alone, so that nothing is escaped
abbrev pub mark : ℕ → Row → List ℕ
mark harts row = concat (
    codes "<g class=\"" ∷ class_of row.step row.entry ∷ codes "\" transform=\"translate(" ∷ decimal (x_of harts row) ∷ codes "," ∷ decimal (y_of row) ∷ codes ")\"><circle r=\"3\"/><text x=\"14\" y=\"4\">" ∷ [])

abbrev pub step_of : ℕ → Row → List ℕ
step_of harts row = number_mark row ++ (mark harts row ++ (label_of row.step row.arrival row.entry ++ codes "</text></g>\n"))
