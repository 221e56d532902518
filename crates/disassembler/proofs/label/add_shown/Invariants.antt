use Rattle.std.proofs.Common.{◌≡◌, ◌++◌, map, take}
use Rattle.disassembler.specs.Labels.{shown_byte}
use Rattle.disassembler.proofs.label.add_shown.Given as goal

-- so many bytes
abbrev pub invariant-loop-byte : goal.invariant-loop-byte
invariant-loop-byte g l = l.line ≡ l.initial.line ++ map shown_byte (take l.byte-index l.name)
