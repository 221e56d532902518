-- An access without a cause lies within a block in memory.
use Rattle.std.proofs.Common.{◌≡◌, ◌<◌, ◌≤◌, ℕ, ◌+◌, ◌-◌, ◌*◌, ◌/◌, ◌%◌, Bool, true, false, cond, None, Ok, ap, sym, ◌∙◌, arith}
use Rattle.std.proofs.lemmas.Bool.Decides.{nat_tests}
use Rattle.words.specs.declared.entry.Width.{Width}
use Rattle.words.specs.declared.entry.Width.TheVariants.{Byte, Half, Word}
use Rattle.words.specs.Bytes.{bytes_in}
use Rattle.table.specs.declared.effect.Effect.{Effect}
use Rattle.table.specs.declared.effect.MemoryAct.{MemoryAct}
use Rattle.table.specs.declared.effect.Act.TheVariants as act
use Rattle.flat.specs.State.{Setting, FlatHart}
use Rattle.flat.specs.Causes.{next_of, act_cause, memory_cause, load_cause, store_cause, logs_from}
use Rattle.flat.proofs.Next.{next_ok, memory_aligned}
use Rattle.isolation.specs.Memory.{IsAccessWithin}

-- it ends below the undo logs, as a load
load_below : (s : Setting) (a n : ℕ) → load_cause s a n ≡ None → a + n ≤ logs_from s
load_below s a n e = grind (arith, nat_tests)

-- and as a store
store_below : (s : Setting) (a n : ℕ) → store_cause s a n ≡ None → a + n ≤ logs_from s
store_below s a n e = grind (arith, nat_tests)

below_by : (s : Setting) (a n : ℕ) (b : Bool) → cond b (store_cause s a n) (load_cause s a n) ≡ None → a + n ≤ logs_from s
below_by s a n true e = store_below s a n e
below_by s a n false e = load_below s a n e

-- at a multiple of its width it lies within one block
one_block_by : (a : ℕ) (width : Width) → a % bytes_in width ≡ 0 → a % 32 + bytes_in width ≤ 32
one_block_by a Byte e = omega arith
one_block_by a Half e = omega arith
one_block_by a Word e = omega arith

some_bytes : (width : Width) → 0 < bytes_in width
some_bytes Byte = omega arith
some_bytes Half = omega arith
some_bytes Word = omega arith

block_by : (a n size logs : ℕ) → 0 < n → a + n ≤ size - logs → 32 * (a / 32) < size
block_by a n size logs some below = omega arith

pub access_within : (s : Setting) (h : FlatHart) (m : MemoryAct) → memory_cause s m ≡ None → IsAccessWithin s m
access_within s h m none =
    let below = below_by s m.addr (bytes_in m.width) _ none in
    let aligned = memory_aligned s m none in
    record {
      aligned = aligned;
      below = below;
      one_block = one_block_by m.addr m.width aligned;
      block = block_by m.addr (bytes_in m.width) s.size _ (some_bytes m.width) below;
    }
