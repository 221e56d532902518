-- What is noted of moments, one behind another.
use Rattle.std.specs.Prelude.{ℕ, ◌≡◌, ◌<◌, ◌≤◌, ◌+◌, ◌++◌, List, length, Vec, vec_len, vec_capacity}
use Rattle.words.specs.Sinks.{SinkState, TookAll}
use Rattle.schedule.specs.Moments.{Moment}
use Rattle.timeline.specs.declared.row.Row.{Row}
use Rattle.timeline.specs.Events.{events_from, time_behind}
use Rattle.timeline.specs.Rows.{rows_from}

-- their events were put between one time and another
pub record PutEvents (sets : ℕ) (a : SinkState) (t : ℕ) (ms : List Moment) (b : SinkState) (u : ℕ) : Type 0 where
  pub events : TookAll a b (events_from sets t ms)
  pub time : u ≡ time_behind t ms

-- their rows stand behind those that were there, and there is room for no fewer
pub record NotesRows {Z : Type 0} (sets : ℕ) (x : Vec Row Z) (ms : List Moment) (y : Vec Row Z) : Type 0 where
  pub rows : y.items ≡ x.items ++ rows_from sets (vec_len x) ms
  pub number : vec_len y ≡ vec_len x + length ms
  pub room : vec_capacity x ≤ vec_capacity y

-- there was no room for all their rows
abbrev pub IsFull : {Z : Type 0} → Vec Row Z → List Moment → Vec Row Z → Type 0
IsFull x ms y = vec_capacity x < vec_len x + length ms
