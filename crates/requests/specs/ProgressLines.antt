-- A run's progress, as a line of a terminal.
use Rattle.std.specs.Prelude.{ℕ, ◌*◌, ◌/◌, ◌%◌, List, [], ◌∷◌, codes, decimal, max, min}
use Rattle.std.specs.List.{concat}

-- goes to the start of the terminal's line, and clears it
abbrev pub clear : List ℕ
clear = 13 ∷ codes "\u{1b}[K"

-- how many steps are a second's, where they took so many nanoseconds, counted in whole milliseconds
abbrev pub a_second : ℕ → ℕ → ℕ
a_second steps nanos = min (steps * 1000 / max (nanos / 1000000) 1) 18446744073709551615

-- the states met, and the states a second, both in thousands
abbrev pub states_line : ℕ → ℕ → List ℕ
states_line states pace = concat (clear ∷ decimal (states / 1000) ∷ codes " thousand states, " ∷ decimal (pace / 1000) ∷ codes " thousand a second" ∷ [])

-- the steps made, the steps a second, both in millions to the tenth below, and how many harts run
abbrev pub progress_line : ℕ → ℕ → ℕ → List ℕ
progress_line steps pace running = concat (
    clear ∷ decimal (steps / 1000000) ∷ codes "." ∷ decimal (steps / 100000 % 10) ∷ codes " million steps, "
    ∷ decimal (pace / 1000000) ∷ codes "." ∷ decimal (pace / 100000 % 10) ∷ codes " million a second, harts that run: " ∷ decimal running ∷ [])
