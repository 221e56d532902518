use Rattle.std.proofs.Common.{◌≡◌, ℕ, List}
use Rattle.std.specs.Io.Iter.{bytes_remaining}
use Rattle.std.specs.Io.KnownBytes.{Consumes}
use Rattle.debugger.specs.Lines.{IsLine, kept}
use Rattle.debugger.proofs.input.TypedLineInput.read_line.Given as goal

-- what was read so far is no whole line yet
abbrev pub invariant-loop : goal.invariant-loop
invariant-loop g l = (read : List ℕ) × IsLine read × (l.kept.items ≡ kept read) × Consumes (bytes_remaining g.R.Read.remaining l.fn.self.bytes) (bytes_remaining g.R.Read.remaining l.self.bytes) read × (l.self.failed ≡ l.fn.self.failed)
