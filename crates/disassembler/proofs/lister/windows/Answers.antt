use Rattle.std.proofs.Common.{◌≡◌, length, arith}
use Rattle.disassembler.proofs.Windows.{none-after}
use Rattle.disassembler.proofs.lister.windows.Goals as goal

pub returns-clause-all : goal.returns-clause-all
returns-clause-all c =
    let all : c.loop-segment.segment-index ≡ length c.args.segments.now = omega arith in
    none-after c.args.segments.now c.loop-segment.segment-index c.loop-segment.end c.div_ceil.result all c.loop-segment.invariant.all c.div_ceil.ensures
