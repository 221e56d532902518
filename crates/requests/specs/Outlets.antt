-- What a sink over a writer has taken, handed on and keeps back.
use Rattle.std.specs.Prelude.{ℕ, List, [], Option, Result, OnOk}
use Rattle.std.specs.Io.Buffered.{writer_buffer, writer_contents, writer_inner}
use Rattle.words.specs.Sinks.{SinkState}
use Rattle.words.specs.declared.sink.SinkFault.{SinkFault}
use Rattle.texts.specs.Puts.{Puts}
use Rattle.requests.specs.Buffers.{IsHandedOn}
use Rattle.requests.specs.declared.page.Outlet.{Outlet}

-- what the writer took, and then what is kept back, where the writer tells its bytes
abbrev pub outlet_state : {W : Type 0} → (W → Option (List ℕ)) → Outlet W → SinkState
outlet_state contents outlet = record { taken = writer_contents contents outlet.writer; failed = outlet.failed }

abbrev pub handed_by : {W : Type 0} → (W → Option (List ℕ)) → Outlet W → Option (List ℕ)
handed_by contents outlet = contents (writer_inner outlet.writer)

abbrev pub kept_by : {W : Type 0} → Outlet W → List ℕ
kept_by outlet = writer_buffer outlet.writer

-- what it kept back was written out by the end, or that failed
abbrev pub IsFlushed : {W : Type 0} → (W → Option (List ℕ)) → Outlet W → Result Unit SinkFault → Type 0
IsFlushed {W} contents outlet result = (closed : Outlet W) × Puts (outlet_state contents outlet) (outlet_state contents closed) [] result
    × OnOk result (IsHandedOn (handed_by contents closed) (kept_by closed) (outlet_state contents closed))
