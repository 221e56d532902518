-- What the writer took is a beginning of the bytes. Each turn writes some of them, or uses up a try.
use Rattle.std.proofs.Common.{◌≡◌, ◌+◌, ◌-◌, ◌≤◌, length, take}
use Rattle.std.specs.Io.Buffered.{writer_contents}
use Rattle.std.specs.Io.KnownBytes.{Appends}
use Rattle.requests.proofs.page.Outlet.write_all.Given as goal

abbrev pub invariant-loop-written : goal.invariant-loop-written
invariant-loop-written g l = (l.written ≤ length l.bytes)
    × Appends (writer_contents g.W.Write.contents l.initial.self.writer) (writer_contents g.W.Write.contents l.self.writer) (take l.written l.bytes)
    × (l.self.at_once ≡ l.initial.self.at_once) × (l.self.failed ≡ l.initial.self.failed)

abbrev pub decreases-loop-written : goal.decreases-loop-written
decreases-loop-written g l = (length l.bytes - l.written) + l.tries
