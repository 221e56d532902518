-- The numbers and names of the faults.
use Rattle.std.specs.Prelude.{ℕ, List, codes}
use Rattle.debugger.specs.declared.commands.fault.DebugFault.{DebugFault}
use Rattle.debugger.specs.declared.commands.fault.DebugFault.TheVariants.{Unknown, NoHart, Address, Stopped, Limit, NoMemory, Device}

-- the number, a space, and the name
abbrev pub fault_text : DebugFault → List ℕ
fault_text Unknown = codes "1 Unknown"
fault_text NoHart = codes "2 NoHart"
fault_text Address = codes "3 Address"
fault_text Stopped = codes "4 Stopped"
fault_text Limit = codes "5 Limit"
fault_text NoMemory = codes "6 NoMemory"
fault_text Device = codes "7 Device"
