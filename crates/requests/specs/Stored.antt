-- What a store of files answers.
use Rattle.requests.specs.declared.store.StoreFault.{StoreFault}
use Rattle.requests.specs.declared.store.StoreFault.TheVariants.{Refused, NoMemory}

-- a file is refused only if the store refuses it. Nothing is said of when memory runs out
abbrev pub IsRefusedIf : Type 0 → StoreFault → Type 0
IsRefusedIf refuses Refused = refuses
IsRefusedIf refuses NoMemory = Unit {0}
