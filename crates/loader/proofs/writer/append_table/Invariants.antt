use Rattle.std.proofs.Common.{◌≡◌, ◌+◌, ◌*◌, ◌++◌, length, take, drop}
use Rattle.std.specs.List.{flat_map}
use Rattle.loader.specs.Writing.{field_bytes, table_fields, contents}
use Rattle.loader.proofs.writer.append_table.Given as goal

-- where the bytes of the next segment begin, and the headers so far with those that are left are all
abbrev pub invariant-loop-segment : goal.invariant-loop-segment
invariant-loop-segment l = record {
  place : l.offset ≡ 52 + 32 * length l.segments + length (contents (take l.segment-index l.segments));
  told : l.file.items ++ flat_map field_bytes (table_fields l.offset (drop l.segment-index l.segments))
      ≡ l.fn.file.items ++ flat_map field_bytes (table_fields (52 + 32 * length l.segments) l.segments);
}
