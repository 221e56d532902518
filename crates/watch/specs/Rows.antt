-- The lines of turns that were taken in a row.
use Rattle.std.specs.Prelude.{ℕ, ◌≡◌, ◌<◌, ◌≤◌, ◌+◌, ◌++◌, List, length, Option}
use Rattle.words.specs.declared.entry.Entry.{Entry}
use Rattle.words.specs.Sinks.{SinkState, TookAll, TookPart}
use Rattle.disassembler.specs.Tables.{Table}
use Rattle.protocol.specs.Caches.{Geometry}
use Rattle.machine.specs.States.{State}
use Rattle.schedule.specs.Moments.{Moment}
use Rattle.schedule.specs.Runs.{TookTurns}
use Rattle.watch.specs.declared.recording.Lines.{Lines}
use Rattle.watch.specs.Traces.{line_if, trace_of}

-- the line of what a step gave was added, where there was room for 240 bytes
pub record AddsLine (before : Lines) (e : Option Entry) (after : Lines) : Type 0 where
  pub names : after.entries ≡ before.entries
  pub line : length before.text + 240 ≤ 1920 → after.text ≡ before.text ++ line_if before.entries e
  pub longer : length after.text ≤ length before.text + 240

-- so many turns were taken, the first after a hart's, and the lines of what they gave were added. The last of a hart was then this hart's
pub record AddsTurns (g : Geometry) (v : State) (after number : ℕ) (w : State) (last : ℕ) (before now : Lines) : Type 0 where
  pub moments : List Moment
  pub took : TookTurns g v after moments w last
  pub turns : number ≡ length moments
  pub names : now.entries ≡ before.entries
  pub text : now.text ≡ before.text ++ trace_of before.entries moments

-- so many turns were taken, and the sink took the lines of what they gave
pub record PutsTurns (g : Geometry) (names : Table) (v : State) (after number : ℕ) (w : State) (last : ℕ) (a b : SinkState) : Type 0 where
  pub moments : List Moment
  pub took : TookTurns g v after moments w last
  pub turns : number ≡ length moments
  pub put : TookAll a b (trace_of names moments)

-- some turns were taken, so many at most, and the sink took a beginning of the lines of what they gave
pub record CutsTurns (g : Geometry) (names : Table) (v : State) (after most : ℕ) (w : State) (a b : SinkState) : Type 0 where
  pub moments : List Moment
  pub last : ℕ
  pub took : TookTurns g v after moments w last
  pub some : 0 < length moments
  pub few : length moments ≤ most
  pub part : TookPart a b (trace_of names moments)
