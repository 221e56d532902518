-- An instruction without a cause can be carried out: its access lies in memory and is aligned, and its transaction has room.
use Rattle.std.proofs.Common.{◌≡◌, ◌%◌, ℕ, Bool, true, false, cond, Option, Some, None, Ok, arith, refl}
use Rattle.std.proofs.lemmas.Bool.Decides.{nat_tests}
use Rattle.std.specs.Option.{option_map}
use Rattle.table.specs.declared.effect.Act.{Act}
use Rattle.table.specs.declared.effect.Act.TheVariants as act
use Rattle.table.specs.declared.effect.MemoryAct.{MemoryAct}
use Rattle.words.specs.Bytes.{bytes_in}
use Rattle.flat.specs.State.{Setting, FlatHart}
use Rattle.flat.specs.Causes.{act_cause, memory_cause, load_cause, store_cause, depth_of}
use Rattle.flat.proofs.Next.{memory_fits}
use Rattle.reference.specs.declared.hart.Hart.{Hart}
use Rattle.reference.specs.declared.hart.Transaction.{Transaction}
use Rattle.reference.specs.States.{Fits, HasRoom, hart_of, tx_of}

load_aligned : (s : Setting) (a n : ℕ) → load_cause s a n ≡ None → a % n ≡ 0
load_aligned s a n e = grind (arith, nat_tests)

store_aligned : (s : Setting) (a n : ℕ) → store_cause s a n ≡ None → a % n ≡ 0
store_aligned s a n e = grind (arith, nat_tests)

aligned_by : (s : Setting) (a n : ℕ) (b : Bool) → cond b (store_cause s a n) (load_cause s a n) ≡ None → a % n ≡ 0
aligned_by s a n true e = store_aligned s a n e
aligned_by s a n false e = load_aligned s a n e

memory_aligned : (s : Setting) (m : MemoryAct) → memory_cause s m ≡ None → m.addr % bytes_in m.width ≡ 0
memory_aligned s m e = aligned_by s m.addr (bytes_in m.width) _ e

pub fits_act : (s : Setting) (h : FlatHart) (a : Act) → act_cause s h a ≡ None → Fits s.size a
fits_act s h act.Nothing e = tt
fits_act s h (act.Memory m) e = record { inside = memory_fits s m e; aligned = memory_aligned s m e }
fits_act s h (act.Conditional rd m) e = record { inside = memory_fits s m e; aligned = memory_aligned s m e }
fits_act s h (act.Begin p) e = tt
fits_act s h act.Commit e = tt
fits_act s h act.Abort e = tt
fits_act s h act.Call e = tt
fits_act s h act.Break e = tt

-- the depth doesn't depend on the size of memory
depth_same : (size : ℕ) (t : Option Transaction) → depth_of (option_map (tx_of 0) t) ≡ depth_of (option_map (tx_of size) t)
depth_same size None = refl
depth_same size (Some t) = refl

pub room_act : (s : Setting) (size : ℕ) (h : Hart) (a : Act) → act_cause s (hart_of size h) a ≡ None → HasRoom h.tx a
room_act s size h act.Nothing e = tt
room_act s size h (act.Memory m) e = tt
room_act s size h (act.Conditional rd m) e = tt
room_act s size h (act.Begin p) e = let d : depth_of (option_map (tx_of 0) h.tx) ≡ depth_of (option_map (tx_of size) h.tx) = depth_same size h.tx in grind (arith, nat_tests)
room_act s size h act.Commit e = tt
room_act s size h act.Abort e = tt
room_act s size h act.Call e = tt
room_act s size h act.Break e = tt
