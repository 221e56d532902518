-- An act depends on memory only by the bytes of its access.
use Rattle.std.proofs.Common.{◌≡◌, ◌≤◌, ◌<◌, ℕ, ◌+◌, ◌/◌, ◌%◌, Option, Some, None, refl, ap, arith}
use Rattle.std.specs.Option.{option_map}
use Rattle.words.specs.declared.entry.Width.{Width}
use Rattle.words.specs.declared.entry.Width.TheVariants.{Byte, Half, Word}
use Rattle.words.specs.declared.entry.Entry.TheVariants.{Retire}
use Rattle.words.specs.Bytes.{bytes_in, number_at}
use Rattle.words.specs.Registers.{with_reg}
use Rattle.table.specs.declared.effect.Effect.{Effect}
use Rattle.table.specs.declared.effect.MemoryAct.{MemoryAct}
use Rattle.table.specs.declared.effect.Store.{Store}
use Rattle.table.specs.declared.effect.Act.{Act}
use Rattle.table.specs.declared.effect.Act.TheVariants as act
use Rattle.flat.specs.State.{Setting, FlatHart, Tx}
use Rattle.flat.specs.Causes.{act_cause}
use Rattle.flat.specs.Effects.{old_of, put_of, access, write_by, load_by, store_by, retire_of, tx_by, tx_put, tx_got, hart_after}
use Rattle.flat.proofs.Laid.{in_one_block}
use Rattle.flat.proofs.Next.{memory_aligned}
use Rattle.flat.proofs.Touches.{IsAt}

-- the two have the same number where the act reads
abbrev pub Agree : (ℕ → ℕ) → (ℕ → ℕ) → Act → Type 0
Agree u v (act.Memory m) = old_of u m ≡ old_of v m
Agree u v does = Unit {0}

-- a byte of an access in one block lies in that block
near : (addr n k : ℕ) → addr % 32 + n ≤ 32 → k < n → (addr + k) / 32 ≡ addr / 32
near addr n k fits lt = omega arith

-- bytes of one block
number_same : (u v : ℕ → ℕ) (addr : ℕ) (w : Width) → addr % 32 + bytes_in w ≤ 32 → ((a : ℕ) → a / 32 ≡ addr / 32 → u a ≡ v a) → number_at u addr w ≡ number_at v addr w
number_same u v addr Byte fits e = e addr refl
number_same u v addr Half fits e =
    let x = e addr refl in
    let y = e (addr + 1) (near addr 2 1 fits (omega arith)) in
    rw (x, y) refl
number_same u v addr Word fits e =
    let x = e addr refl in
    let y = e (addr + 1) (near addr 4 1 fits (omega arith)) in
    let z = e (addr + 2) (near addr 4 2 fits (omega arith)) in
    let w = e (addr + 3) (near addr 4 3 fits (omega arith)) in
    rw (x, y, z, w) refl

-- two memories that are one in the block of an access
pub agree_by : (s : Setting) (h : FlatHart) (u v : ℕ → ℕ) (does : Act) → act_cause s h does ≡ None → ((a : ℕ) → IsAt does a → u a ≡ v a) → Agree u v does
agree_by s h u v (act.Memory m) n e = number_same u v m.addr m.width (in_one_block m.addr m.width (memory_aligned s m n)) e
agree_by s h u v does n e = tt

-- the register that is written
write_same : (u v : ℕ → ℕ) (e : Effect) (does : Act) → Agree u v does → write_by u e does ≡ write_by v e does
write_same u v e (act.Memory m) k = rw k refl
write_same u v e does k = refl

-- the load in the entry
load_same : (u v : ℕ → ℕ) (does : Act) → Agree u v does → load_by u does ≡ load_by v does
load_same u v (act.Memory m) k = rw k refl
load_same u v does k = refl

-- the number that is stored
put_same : (u v : ℕ → ℕ) (m : MemoryAct) (s : Option Store) → old_of u m ≡ old_of v m → option_map (put_of u m) s ≡ option_map (put_of v m) s
put_same u v m None k = refl
put_same u v m (Some s) k = rw k refl

-- the store in it
store_same : (u v : ℕ → ℕ) (does : Act) → Agree u v does → store_by u does ≡ store_by v does
store_same u v (act.Memory m) k = ap (option_map (access m)) (put_same u v m m.store k)
store_same u v does k = refl

-- and the transaction
tx_same : (u v : ℕ → ℕ) (h : FlatHart) (tx : Option Tx) (does : Act) → Agree u v does → tx_by u h tx does ≡ tx_by v h tx does
tx_same u v h (Some t) (act.Memory m) k = ap (λ n. Some (tx_put (tx_got t m m.load) m n)) (put_same u v m m.store k)
tx_same u v h tx does k = refl

-- the entry
pub retire_same : (u v : ℕ → ℕ) (i : ℕ) (h : FlatHart) (w : ℕ) (e : Effect) → Agree u v e.act → retire_of u i h w e ≡ retire_of v i h w e
retire_same u v i h w e k = λ p. Retire i h.pc w (write_same u v e e.act k p) (load_same u v e.act k p) (store_same u v e.act k p)

-- and the hart after it
pub after_same : (u v : ℕ → ℕ) (h : FlatHart) (e : Effect) → Agree u v e.act → hart_after u h e ≡ hart_after v h e
after_same u v h e k = λ p. record (hart_after u h e) { regs = with_reg h.regs (write_same u v e e.act k p); tx = tx_same u v h h.tx e.act k p }
