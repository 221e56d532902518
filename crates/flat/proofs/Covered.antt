-- A transaction's written bytes lie in the blocks that it has written, and what keeps them there.
use Rattle.std.proofs.Common.{◌≡◌, ◌≢◌, ◌≤◌, ℕ, ◌-◌, ◌+◌, ◌/◌, ◌%◌, Bool, true, false, cond, Option, Some, None, refl, ◌∙◌}
use Rattle.std.specs.Prelude.{◌==◌}
use Rattle.std.specs.Option.{option_map}
use Rattle.words.specs.Bytes.{bytes_in, byte_of}
use Rattle.table.specs.declared.effect.MemoryAct.{MemoryAct}
use Rattle.table.specs.declared.effect.Load.{Load}
use Rattle.table.specs.declared.effect.Store.{Store}
use Rattle.table.specs.declared.effect.Act.{Act}
use Rattle.table.specs.declared.effect.Act.TheVariants as act
use Rattle.flat.specs.State.{Setting, FlatHart, Tx, has_written}
use Rattle.flat.specs.Causes.{act_cause}
use Rattle.flat.specs.Effects.{tx_by, tx_got, tx_put, put_of}
use Rattle.flat.proofs.Maps.{two_numbers}
use Rattle.flat.proofs.Laid.{laid_elsewhere, in_one_block}
use Rattle.flat.proofs.Next.{memory_aligned}

-- the byte that a transaction has written at an address
abbrev pub byte_written : Option Tx → ℕ → Option ℕ
byte_written None a = None
byte_written (Some t) a = t.writes a

-- where a block has not been written, none of its bytes has
abbrev pub IsCovered : Option Tx → Type 0
IsCovered tx = (a : ℕ) → has_written tx (a / 32) ≡ false → byte_written tx a ≡ None

-- who is in no transaction has written no byte
pub covered_none : IsCovered None
covered_none = λ a e. refl

-- a load
got_covered : (t : Tx) (m : MemoryAct) (l : Option Load) → IsCovered (Some t) → IsCovered (Some (tx_got t m l))
got_covered t m None k = k
got_covered t m (Some l) k = k

-- what is not in the grown set is another block, and was not in the set
other_block : (b c : ℕ) (old : Bool) → cond (b == c) true old ≡ false → (b ≢ c) × (old ≡ false)
other_block b c old = elim (b == c) as (λ t. (b == c) ≡ t → cond t true old ≡ false → (b ≢ c) × (old ≡ false)) [ true ↦ λ e k. cc | false ↦ λ e k. (two_numbers b c e, k) ] refl

-- a store
put_covered : (t : Tx) (m : MemoryAct) (s : Option Store) (f : Store → ℕ) → m.addr % 32 + bytes_in m.width ≤ 32 → IsCovered (Some t) → IsCovered (Some (tx_put t m (option_map f s)))
put_covered t m None f fits k = k
put_covered t m (Some s) f fits k = λ a e.
    let o = other_block (a / 32) (m.addr / 32) (t.write_set (a / 32)) e in
    laid_elsewhere m.addr (bytes_in m.width) (λ j. Some (byte_of (f s) j)) t.writes a fits o.0 ∙ k a o.1

-- a commit
left_covered : (t : Tx) (b : Bool) → IsCovered (Some t) → IsCovered (cond b None (Some (record t { depth = t.depth - 1 })))
left_covered t true k = covered_none
left_covered t false k = k

-- an act without a cause keeps the bytes in the blocks
pub act_covered : (s : Setting) (g : FlatHart) (view : ℕ → ℕ) (h : FlatHart) (tx : Option Tx) (does : Act) → act_cause s g does ≡ None → IsCovered tx → IsCovered (tx_by view h tx does)
act_covered s g view h (Some t) (act.Memory m) e k =
    put_covered (tx_got t m m.load) m m.store (put_of view m) (in_one_block m.addr m.width (memory_aligned s m e)) (got_covered t m m.load k)
act_covered s g view h None (act.Begin p) e k = λ a e. refl
act_covered s g view h (Some t) (act.Begin p) e k = k
act_covered s g view h (Some t) act.Commit e k = left_covered t (t.depth == 1) k
act_covered s g view h tx does e k = k
