-- What the stores of entries make of memory, in their order.
use Rattle.std.specs.Prelude.{ℕ, ◌≡◌, Option, Some, None, List, [], ◌∷◌}
use Rattle.words.specs.declared.entry.Access.{Access}
use Rattle.words.specs.declared.entry.Entry.{Entry}
use Rattle.words.specs.declared.entry.Entry.TheVariants.{Retire, Abort, Trap, Refuse, Spill}
use Rattle.words.specs.Bytes.{bytes_in, byte_of}
use Rattle.flat.specs.Bytes.{laid}
use Rattle.flat.specs.State.{Flat}
use Rattle.flat.specs.Steps.{Carries}

-- memory after a store, if there is one
abbrev pub stored : Option Access → (ℕ → ℕ) → ℕ → ℕ
stored None mem a = mem a
stored (Some s) mem a = laid s.addr (bytes_in s.width) (byte_of s.value) mem a

abbrev pub store_in : Entry → Option Access
store_in (Retire i pc word write load store) = store
store_in (Abort i cause) = None
store_in (Trap i cause pc) = None
store_in (Refuse i requester block) = None
store_in (Spill i block) = None

-- memory after the stores of entries, one after another
abbrev pub after_stores : List Entry → (ℕ → ℕ) → ℕ → ℕ
after_stores [] mem a = mem a
after_stores (e ∷ es) mem a = after_stores es (stored (store_in e) mem) a

-- no hart is in a transaction
abbrev pub IsPlain : Flat → Type 0
IsPlain f = (i : ℕ) → (f.hart i).tx ≡ None

-- a run in which no hart is ever in a transaction
abbrev pub IsPlainRun : Flat → List Entry → Flat → Type 0
IsPlainRun f [] g = IsPlain f × (g ≡ f)
IsPlainRun f (e ∷ es) g = IsPlain f × ((h : Flat) × Carries f e h × IsPlainRun h es g)
