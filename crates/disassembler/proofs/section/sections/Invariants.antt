use Rattle.std.proofs.Common.{◌≡◌, ◌+◌, ◌*◌, map}
use Rattle.std.specs.List.{range_with_len}
use Rattle.disassembler.specs.Sections.{section_header}
use Rattle.disassembler.proofs.section.sections.Given as goal

-- so many headers
abbrev pub invariant-loop-i : goal.invariant-loop-i
invariant-loop-i l = l.sections.items ≡ map (λ i. section_header l.bytes (l.offset + 40 * i)) (range_with_len 0 l.i)
