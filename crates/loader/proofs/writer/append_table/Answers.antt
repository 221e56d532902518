use Rattle.std.proofs.Common.{arith}
use Rattle.loader.proofs.Room.{contents_up_to}
use Rattle.loader.proofs.writer.append_table.Goals as goal

pub overflow_cast-offset : goal.overflow_cast-offset
overflow_cast-offset c =
    let room = contents_up_to c.args.segments.now c.loop-segment.segment-index c.segment-item.result c.loop-segment-test.true in
    omega (arith, room, c.loop-segment.invariant.place, c.requires.few, c.requires.bytes)

pub segment_fields-requires : goal.segment_fields-requires
segment_fields-requires c =
    let room = contents_up_to c.args.segments.now c.loop-segment.segment-index c.segment-item.result c.loop-segment-test.true in
    rw c.segment-item.is (omega (arith, room, c.requires.bytes))
