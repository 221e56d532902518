-- What a picture notes of each step, in a row of its own.
use Rattle.std.specs.Prelude.{ℕ, ◌==◌, ◌+◌, ◌&&◌, nat_le, nat_lt, Bool, true, false, List, [], ◌∷◌}
use Rattle.machine.specs.States.{shown}
use Rattle.schedule.specs.Moments.{Moment}
use Rattle.timeline.specs.Marks.{lane_of, edge_of}
use Rattle.timeline.specs.declared.edge.Edge.{Edge}
use Rattle.timeline.specs.declared.edge.Edge.TheVariants.{Committed, Aborted}
use Rattle.timeline.specs.declared.row.Row.{Row}

-- the row of a moment, before which there were so many, where the caches have so many sets
abbrev pub row_of : ℕ → ℕ → Moment → Row
row_of sets number m = record {
  number = number;
  sent = m.sent;
  sent_behind = m.after.sent;
  step = m.step;
  arrival = m.arrival;
  entry = m.entry;
  edge = edge_of m.entry (shown sets m.after);
}

-- those of moments, one after another
abbrev pub rows_from : ℕ → ℕ → List Moment → List Row
rows_from sets number [] = []
rows_from sets number (m ∷ ms) = row_of sets number m ∷ rows_from sets (number + 1) ms

-- the lane of a row: a hart's number, or the directory's lane behind all harts
abbrev pub lane_in : Row → ℕ
lane_in row = lane_of row.step row.arrival

-- whether a row sent the message with this number: no more had been sent before its step, and more were behind it
abbrev pub sends : ℕ → Row → Bool
sends number row = nat_le row.sent number && nat_lt number row.sent_behind

abbrev pub is_end : Edge → Bool
is_end Committed = true
is_end Aborted = true
is_end other = false

-- whether a row ends what an earlier one in its lane begins
abbrev pub ends : Row → Row → Bool
ends begin row = is_end row.edge && ((lane_in row == lane_in begin) && nat_lt begin.number row.number)
