use Rattle.std.proofs.Common.{◌≡◌, ◌++◌, take}
use Rattle.statements.specs.Bytes.{low_bytes}
use Rattle.assembler.proofs.passes.append_numbers.Given as goal

-- the bytes of so many numbers are appended
abbrev pub invariant-loop-value : goal.invariant-loop-value
invariant-loop-value l = l.bytes.items ≡ l.fn.bytes.items ++ low_bytes l.fn.width (take l.value-index l.values)
