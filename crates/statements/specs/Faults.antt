-- The numbers, names and texts of the faults.
use Rattle.std.specs.Prelude.{ℕ, ◌++◌, List, codes}
use Rattle.std.specs.Fmt.{decimal}
use Rattle.statements.specs.declared.fault.AsmFault.{AsmFault}
use Rattle.statements.specs.declared.fault.AsmFault.TheVariants.{Unknown, Operand, Register, Range, Alignment, Label, TwiceDefined, Directive, TooLarge, NoMemory}

abbrev pub fault_number : AsmFault → ℕ
fault_number Unknown = 1
fault_number Operand = 2
fault_number Register = 3
fault_number Range = 4
fault_number Alignment = 5
fault_number Label = 6
fault_number TwiceDefined = 7
fault_number Directive = 8
fault_number TooLarge = 9
fault_number NoMemory = 10

abbrev pub fault_name : AsmFault → List ℕ
fault_name Unknown = codes "Unknown"
fault_name Operand = codes "Operand"
fault_name Register = codes "Register"
fault_name Range = codes "Range"
fault_name Alignment = codes "Alignment"
fault_name Label = codes "Label"
fault_name TwiceDefined = codes "TwiceDefined"
fault_name Directive = codes "Directive"
fault_name TooLarge = codes "TooLarge"
fault_name NoMemory = codes "NoMemory"

-- the number, a space, and the name
abbrev pub fault_text : AsmFault → List ℕ
fault_text fault = decimal (fault_number fault) ++ codes " " ++ fault_name fault
