use Rattle.std.proofs.Common.{◌≡◌, ◌++◌, take}
use Rattle.std.specs.List.{flat_map}
use Rattle.loader.specs.Writing.{field_bytes}
use Rattle.loader.proofs.writer.append_fields.Given as goal

-- so many fields are appended
abbrev pub invariant-loop-field : goal.invariant-loop-field
invariant-loop-field l = l.file.items ≡ l.fn.file.items ++ flat_map field_bytes (take l.field-index l.fields)
