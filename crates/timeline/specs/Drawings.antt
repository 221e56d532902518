-- A picture of rows.
use Rattle.std.specs.Prelude.{ℕ, ◌+◌, ◌*◌, ◌++◌, Option, Some, None, List, [], ◌∷◌, length, codes, decimal}
use Rattle.std.specs.List.{concat, find, flat_map, range_with_len}
use Rattle.network.specs.declared.net.Flight.{Flight}
use Rattle.timeline.specs.declared.edge.Edge.{Edge}
use Rattle.timeline.specs.declared.edge.Edge.TheVariants.{Begun, Committed, Aborted}
use Rattle.timeline.specs.declared.row.Row.{Row}
use Rattle.timeline.specs.Rows.{sends, ends}
use Rattle.timeline.specs.Shapes.{x_of, y_of, y_at, lifeline, bar, arrow, step_of}

-- a transaction: from the row in which it begins to the first behind it that ends it, or to the bottom of so many rows
abbrev pub outcome : Edge → List ℕ
outcome Committed = codes "committed"
outcome Aborted = codes "aborted"
outcome other = codes "running"

abbrev pub bar_to : ℕ → ℕ → Row → Option Row → List ℕ
bar_to harts rows begin None = bar (codes "running") (x_of harts begin) (y_of begin) (y_at rows)
bar_to harts rows begin (Some end) = bar (outcome end.edge) (x_of harts begin) (y_of begin) (y_of end)

abbrev pub bar_if : ℕ → List Row → Row → Edge → List ℕ
bar_if harts rows row Begun = bar_to harts (length rows) row (find (ends row) rows)
bar_if harts rows row other = []

abbrev pub bar_of : ℕ → List Row → Row → List ℕ
bar_of harts rows row = bar_if harts rows row row.edge

-- a message: from the row that sent it to the one in which it arrives
abbrev pub arrow_from : ℕ → Option Row → Row → List ℕ
arrow_from harts None row = []
arrow_from harts (Some from) row = arrow harts from row

abbrev pub arrow_if : ℕ → List Row → Row → Option Flight → List ℕ
arrow_if harts rows row None = []
arrow_if harts rows row (Some flight) = arrow_from harts (find (sends flight.number) rows) row

abbrev pub arrow_of : ℕ → List Row → Row → List ℕ
arrow_of harts rows row = arrow_if harts rows row row.arrival

-- the lanes of so many harts, and the directory's behind them
abbrev pub hart_lane : ℕ → ℕ → List ℕ
hart_lane rows hart = lifeline rows hart ++ concat (codes "hart " ∷ decimal hart ∷ codes "</text></g>\n" ∷ [])

abbrev pub last_lane : ℕ → ℕ → List ℕ
last_lane harts rows = lifeline rows harts ++ codes "directory</text></g>\n"

abbrev pub lanes : ℕ → ℕ → List ℕ
lanes harts rows = flat_map (hart_lane rows) (range_with_len 0 harts) ++ last_lane harts rows

-- the size of a picture
abbrev pub width : ℕ → ℕ
width harts = 440 * harts + 540

abbrev pub height : ℕ → ℕ
height rows = 20 * rows + 90

abbrev pub size : ℕ → ℕ → List ℕ
size harts rows = concat (codes "<svg xmlns=\"http://www.w3.org/2000/svg\" version=\"1.1\" width=\"" ∷ decimal (width harts) ∷ codes "\" height=\"" ∷ decimal (height rows) ∷ codes "\">\n" ∷ [])

-- how each class looks, the head of an arrow, and a ground on which every second row is shaded
abbrev pub style : List ℕ
style = concat (
    codes "<style>text{font:11px monospace;paint-order:stroke;stroke:#fff;stroke-width:8px;stroke-linejoin:round}circle{stroke:#fff;stroke-width:1px}path{fill:none}" ∷
    codes ".life{stroke:#bbb}.name{text-anchor:middle;stroke:none}rect.name{fill:#eee;stroke:#999}.number{fill:#888;text-anchor:end}" ∷
    codes ".arrow{stroke:#69c;marker-end:url(#head)}.committed,.aborted,.running{stroke-width:8px;stroke-linecap:round}" ∷
    codes ".committed{stroke:#8c8}.aborted{stroke:#e99}.running{stroke:#ccc}" ∷
    codes ".abort{fill:#c00}.trap{fill:#800}.refuse{fill:#d60}.spill{fill:#83a}.evict{fill:#888}.core{fill:#666}.arrival{fill:#258}</style>\n" ∷
    codes "<defs><marker id=\"head\" viewBox=\"0 0 8 8\" refX=\"11\" refY=\"4\" markerWidth=\"8\" markerHeight=\"8\" orient=\"auto\"><path d=\"M0,0L8,4L0,8Z\" style=\"fill:#69c\"/></marker>" ∷
    codes "<pattern id=\"rows\" width=\"40\" height=\"40\" patternUnits=\"userSpaceOnUse\"><rect width=\"40\" height=\"20\" fill=\"#f7f7f7\"/></pattern></defs>\n" ∷
    codes "<rect width=\"100%\" height=\"100%\" fill=\"#fff\"/><rect y=\"60\" width=\"100%\" height=\"100%\" fill=\"url(#rows)\"/>\n" ∷ [])

abbrev pub closing : List ℕ
closing = codes "</svg>\n"

-- all of it: texts lie over arrows, arrows over bars, and bars over the lines of lanes
abbrev pub drawn : ℕ → List Row → List ℕ
drawn harts rows = size harts (length rows) ++ (style ++ (lanes harts (length rows) ++ (flat_map (bar_of harts rows) rows ++ (flat_map (arrow_of harts rows) rows ++ (flat_map (step_of harts) rows ++ closing)))))
