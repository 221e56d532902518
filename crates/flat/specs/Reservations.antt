-- Which block each hart has reserved, and why a conditional store may succeed, read off a list of entries.
--
-- LR reserves the block that it loads from. SC ends its hart's reservation, whether it succeeds or not, and so do an abort, a trap, and the begin and end of an
-- outermost transaction; and so does another hart's store to the block. (RISC-V Unprivileged ISA 20191213, chapter 8.2: an SC may fail at any time.)
use Rattle.std.specs.Prelude.{ℕ, ◌≡◌, ◌/◌, cond, ◌==◌, Option, Some, None, List, [], ◌∷◌}
use Rattle.std.specs.Option.{option_map}
use Rattle.words.specs.declared.entry.Access.{Access}
use Rattle.words.specs.declared.entry.Entry.{Entry}
use Rattle.words.specs.declared.entry.Entry.TheVariants.{Retire, Abort, Trap, Refuse, Spill}
use Rattle.table.specs.declared.instr.Instr.{Instr}
use Rattle.table.specs.declared.instr.Instr.TheVariants as instr
use Rattle.table.specs.Table.{decoded}
use Rattle.flat.specs.Bytes.{put_at}
use Rattle.flat.specs.Reservation.{without_block}
use Rattle.flat.specs.Reasons.{History, no_history, told}

-- by hart, the block that it has reserved
abbrev pub Reservations : Type 0
Reservations = ℕ → Option ℕ

-- before the first entry
abbrev pub no_reservations : Reservations
no_reservations i = None

abbrev pub block_of : Access → ℕ
block_of a = a.addr / 32

-- what a hart's own instruction makes of its reservation, by how deep it was in transactions and the load in its entry
abbrev pub reserved_by : Option Instr → ℕ → Option Access → Option ℕ → Option ℕ
reserved_by None depth load r = r
reserved_by (Some x) depth load r = elim x [
  | instr.LoadReserved rd rs1 aq rl ↦ option_map block_of load
  | instr.StoreConditional rd rs1 rs2 aq rl ↦ None
  | instr.TBegin o ↦ cond (depth == 0) None r
  | instr.TCommit ↦ cond (depth == 1) None r
  | _ ↦ r
]

-- what another hart's store makes of it
abbrev pub reserved_beside : Option Access → Option ℕ → Option ℕ
reserved_beside None r = r
reserved_beside (Some s) r = without_block (block_of s) r

-- the reservations after one entry more, where the harts are so deep in transactions
abbrev pub reserved_after : (ℕ → ℕ) → Entry → Reservations → Reservations
reserved_after depth (Retire i pc w x l s) r = λ k. cond (k == i) (reserved_by (decoded w) (depth i) l (r i)) (reserved_beside s (r k))
reserved_after depth (Abort i c) r = put_at i None r
reserved_after depth (Trap i c p) r = put_at i None r
reserved_after depth (Refuse j i b) r = r
reserved_after depth (Spill i b) r = r

-- how deep the harts are, by the entries so far
abbrev pub depths_told : History → ℕ → ℕ
depths_told h i = (h.past i).depth

-- after some entries more
abbrev pub reservations_from : History → Reservations → List Entry → Reservations
reservations_from h r [] = r
reservations_from h r (e ∷ es) = reservations_from (told h e) (reserved_after (depths_told h) e r) es

-- after a list of entries
abbrev pub reservations_of : List Entry → Reservations
reservations_of es = reservations_from no_history no_reservations es

-- whether a word is SC
abbrev pub IsConditional : Option Instr → Type 0
IsConditional None = ⊥
IsConditional (Some x) = elim x [ instr.StoreConditional rd rs1 rs2 aq rl ↦ Unit {0} | _ ↦ ⊥ ]

-- why a conditional store may succeed: its hart has reserved the block that it stores to
abbrev pub StoreHasReason : Reservations → ℕ → ℕ → Option Access → Type 0
StoreHasReason r i word None = Unit {0}
StoreHasReason r i word (Some s) = IsConditional (decoded word) → r i ≡ Some (block_of s)
