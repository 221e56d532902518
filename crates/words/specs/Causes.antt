-- The numbers and names of the causes.
use Rattle.std.specs.Prelude.{ℕ, List, codes}
use Rattle.words.specs.declared.cause.Cause.{Cause}
use Rattle.words.specs.declared.cause.Cause.TheVariants.{Illegal, FetchOutside, JumpMisaligned, LoadMisaligned, StoreMisaligned, LoadOutside, StoreOutside, StoreText, LogRegion, Breakpoint, BadCall, CallInTransaction, TooDeep, OutsideTransaction}

abbrev pub cause_number : Cause → ℕ
cause_number Illegal = 1
cause_number FetchOutside = 2
cause_number JumpMisaligned = 3
cause_number LoadMisaligned = 4
cause_number StoreMisaligned = 5
cause_number LoadOutside = 6
cause_number StoreOutside = 7
cause_number StoreText = 8
cause_number LogRegion = 9
cause_number Breakpoint = 10
cause_number BadCall = 11
cause_number CallInTransaction = 12
cause_number TooDeep = 13
cause_number OutsideTransaction = 14

abbrev pub cause_name : Cause → List ℕ
cause_name Illegal = codes "Illegal"
cause_name FetchOutside = codes "FetchOutside"
cause_name JumpMisaligned = codes "JumpMisaligned"
cause_name LoadMisaligned = codes "LoadMisaligned"
cause_name StoreMisaligned = codes "StoreMisaligned"
cause_name LoadOutside = codes "LoadOutside"
cause_name StoreOutside = codes "StoreOutside"
cause_name StoreText = codes "StoreText"
cause_name LogRegion = codes "LogRegion"
cause_name Breakpoint = codes "Breakpoint"
cause_name BadCall = codes "BadCall"
cause_name CallInTransaction = codes "CallInTransaction"
cause_name TooDeep = codes "TooDeep"
cause_name OutsideTransaction = codes "OutsideTransaction"
