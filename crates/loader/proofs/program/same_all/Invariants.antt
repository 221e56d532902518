use Rattle.std.proofs.Common.{◌≡◌, take}
use Rattle.loader.proofs.program.same_all.Given as goal

-- so many segments are the same
abbrev pub invariant-loop-i : goal.invariant-loop-i
invariant-loop-i l = take l.i l.a ≡ take l.i l.b
