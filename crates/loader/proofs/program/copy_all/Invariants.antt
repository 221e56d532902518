use Rattle.std.proofs.Common.{◌≡◌, take}
use Rattle.loader.proofs.program.copy_all.Given as goal

-- so many segments are copied
abbrev pub invariant-loop-segment : goal.invariant-loop-segment
invariant-loop-segment l = l.copies.items ≡ take l.segment-index l.segments
