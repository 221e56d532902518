use Rattle.std.proofs.Common.{◌≡◌}
use Rattle.machine.proofs.Blocks.{blocks_in}
use Rattle.machine.proofs.start.blocks_of.Given as goal

-- the first so many blocks stand
abbrev pub invariant-loop-block : goal.invariant-loop-block
invariant-loop-block l = l.blocks.items ≡ blocks_in l.memory l.block
