-- The numbers, names and texts of the faults.
use Rattle.std.specs.Prelude.{ℕ, ◌++◌, List, codes}
use Rattle.std.specs.Fmt.{decimal}
use Rattle.loader.specs.declared.fault.LoadFault.{LoadFault}
use Rattle.loader.specs.declared.fault.LoadFault.TheVariants.{Truncated, NotElf32, NotRiscv, NotExec, Compressed, BadHeaderSize, SegmentOutside, SegmentOverlap, WritableText, BadEntry, NoMemory}

abbrev pub fault_number : LoadFault → ℕ
fault_number Truncated = 1
fault_number NotElf32 = 2
fault_number NotRiscv = 3
fault_number NotExec = 4
fault_number Compressed = 5
fault_number BadHeaderSize = 6
fault_number SegmentOutside = 7
fault_number SegmentOverlap = 8
fault_number WritableText = 9
fault_number BadEntry = 10
fault_number NoMemory = 11

abbrev pub fault_name : LoadFault → List ℕ
fault_name Truncated = codes "Truncated"
fault_name NotElf32 = codes "NotElf32"
fault_name NotRiscv = codes "NotRiscv"
fault_name NotExec = codes "NotExec"
fault_name Compressed = codes "Compressed"
fault_name BadHeaderSize = codes "BadHeaderSize"
fault_name SegmentOutside = codes "SegmentOutside"
fault_name SegmentOverlap = codes "SegmentOverlap"
fault_name WritableText = codes "WritableText"
fault_name BadEntry = codes "BadEntry"
fault_name NoMemory = codes "NoMemory"

-- the number, a space, and the name
abbrev pub fault_text : LoadFault → List ℕ
fault_text fault = decimal (fault_number fault) ++ codes " " ++ fault_name fault
