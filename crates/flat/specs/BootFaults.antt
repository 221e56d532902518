-- The numbers, names and texts of the faults of boot.
use Rattle.std.specs.Prelude.{ℕ, ◌++◌, List, codes}
use Rattle.std.specs.Fmt.{decimal}
use Rattle.flat.specs.declared.boot_fault.BootFault.{BootFault}
use Rattle.flat.specs.declared.boot_fault.BootFault.TheVariants.{BadSize, BadHarts, DoesNotFit, NoMemory}

abbrev pub boot_fault_number : BootFault → ℕ
boot_fault_number BadSize = 1
boot_fault_number BadHarts = 2
boot_fault_number DoesNotFit = 3
boot_fault_number NoMemory = 4

abbrev pub boot_fault_name : BootFault → List ℕ
boot_fault_name BadSize = codes "BadSize"
boot_fault_name BadHarts = codes "BadHarts"
boot_fault_name DoesNotFit = codes "DoesNotFit"
boot_fault_name NoMemory = codes "NoMemory"

-- the number, a space, and the name
abbrev pub boot_fault_text : BootFault → List ℕ
boot_fault_text fault = decimal (boot_fault_number fault) ++ codes " " ++ boot_fault_name fault
