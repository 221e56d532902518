-- The lines of the words of text, one after another.
use Rattle.std.proofs.Common.{◌≡◌, ℕ, ◌+◌, ◌*◌, ◌≤◌, ◌++◌, List, drop, Result, Ok, Err, IsErr}
use Rattle.words.specs.declared.sink.SinkFault.{SinkFault}
use Rattle.table.specs.Program.{Segment}
use Rattle.texts.specs.Puts.{Puts}
use Rattle.texts.proofs.Pieces.{one-more_number, first-numbers}
use Rattle.texts.proofs.Putting.{puts-nothing, puts-same, puts-cut}
use Rattle.std.specs.List.{flat_map, range_with_len}
use Rattle.words.specs.Sinks.{SinkState}
use Rattle.disassembler.specs.Tables.{Table}
use Rattle.disassembler.specs.Listing.{line_at, lines}

-- one more line
pub lines-step : (names : Table) (segments : List Segment) (k : ℕ) → lines names segments (k + 1) ≡ lines names segments k ++ line_at names segments (4 * k)
unfolding lines
lines-step names segments k = one-more_number (λ j. line_at names segments (4 * j)) k

-- no line
pub lines-none : (names : Table) (segments : List Segment) (a : SinkState) → Puts a a (lines names segments 0) (Ok tt)
unfolding lines
lines-none names segments a = puts-nothing a

-- some lines, of which a put failed, are a beginning of all
pub lines-cut_short : (names : Table) (segments : List Segment) (k n : ℕ) {a b : SinkState} {r s : Result Unit SinkFault} {e : SinkFault} → k ≤ n → r ≡ Err e → Puts a b (lines names segments k) r → IsErr s → Puts a b (lines names segments n) s
unfolding lines
lines-cut_short names segments k n le failed before given =
    let line = λ (j : ℕ). line_at names segments (4 * j) in
    puts-same (first-numbers line n k le) (puts-cut (flat_map line (drop k (range_with_len 0 n))) failed before given)
