use Rattle.std.proofs.Common.{◌≡◌, map, take}
use Rattle.loader.specs.Headers.{segment_of}
use Rattle.loader.proofs.elf.segments.Given as goal

-- the segments of so many headers
abbrev pub invariant-loop-header : goal.invariant-loop-header
invariant-loop-header l = l.segments.items ≡ map (segment_of l.bytes) (take l.header-index l.headers)
