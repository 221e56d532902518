use Rattle.flat.proofs.Separate.{sees_memory}
use Rattle.flat.proofs.laws.unwritten_blocks_are_memory.Goals as goal

pub returns : goal.returns
returns c = sees_memory
