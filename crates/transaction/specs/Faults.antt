-- The numbers and names of the faults.
use Rattle.std.specs.Prelude.{ℕ, List, codes}
use Rattle.transaction.specs.declared.fault.TxFault.{TxFault}
use Rattle.transaction.specs.declared.fault.TxFault.TheVariants.{TooDeep, Outside}

abbrev pub fault_text : TxFault → List ℕ
fault_text TooDeep = codes "1 TooDeep"
fault_text Outside = codes "2 Outside"
