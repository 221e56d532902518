-- What is told of the machine, as text.
use Rattle.std.specs.Prelude.{ℕ, ◌-◌, ◌++◌, List, [], ◌∷◌, codes, decimal, length}
use Rattle.std.specs.List.{concat, flat_map}
use Rattle.schedule.specs.declared.choices.Sort.TheVariants.{Get, Put, Done, Grant, Forward, PutAck, Ack, Nack}
use Rattle.schedule.specs.Spelling.{sort_name}
use Rattle.watch.specs.declared.figures.Figure.{Figure}
use Rattle.watch.specs.declared.figures.Figure.TheVariants.{Sum, MostInFlight, MostInUse}
use Rattle.watch.specs.declared.figures.Sum.TheVariants.{Cores, Evictions, Deliveries, Sent}
use Rattle.watch.specs.CountTexts.{blanks, count_cell}

-- the figures, in the order in which they are shown
abbrev pub figures : List Figure
figures =
    Sum Cores ∷ Sum Evictions ∷ Sum Deliveries ∷ Sum (Sent Get) ∷ Sum (Sent Put) ∷ Sum (Sent Done) ∷ Sum (Sent Grant) ∷ Sum (Sent Forward) ∷ Sum (Sent PutAck) ∷ Sum (Sent Ack) ∷ Sum (Sent Nack)
    ∷ MostInFlight ∷ MostInUse ∷ []

-- what a figure is called: messages by their sort
abbrev pub figure_name : Figure → List ℕ
figure_name (Sum Cores) = codes "core-steps"
figure_name (Sum Evictions) = codes "evict-steps"
figure_name (Sum Deliveries) = codes "deliver-steps"
figure_name (Sum (Sent sort)) = sort_name sort
figure_name MostInFlight = codes "most-in-flight"
figure_name MostInUse = codes "most-entries"

-- a row of the table begins with its name, in 17 columns
abbrev pub figure_label : Figure → List ℕ
figure_label f = concat (figure_name f ∷ blanks (17 - length (figure_name f)) ∷ [])

-- this is told of the machine
module _ (number : Figure → ℕ) where
  abbrev pub figure_row : Figure → List ℕ
  figure_row f = figure_label f ++ (count_cell (number f) ++ codes "\n")

  -- the table: a row with the head of its column, and then one for each figure
  abbrev pub machine_table : List ℕ
  machine_table = codes "                     machine\n" ++ flat_map figure_row figures

  -- a line for scripts, with `machine` in the place of a hart's number
  abbrev pub figure_line : Figure → List ℕ
  figure_line f = concat (codes "machine," ∷ figure_name f ∷ codes "," ∷ decimal (number f) ∷ codes "\n" ∷ [])

  abbrev pub machine_lines : List ℕ
  machine_lines = flat_map figure_line figures
