use Rattle.std.proofs.Common.{◌≡◌, ◌++◌, take}
use Rattle.loader.specs.Writing.{contents}
use Rattle.loader.proofs.writer.append_contents.Given as goal

-- the bytes of so many segments are appended
abbrev pub invariant-loop-segment : goal.invariant-loop-segment
invariant-loop-segment l = l.file.items ≡ l.fn.file.items ++ contents (take l.segment-index l.segments)
