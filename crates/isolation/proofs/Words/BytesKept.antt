-- The flat machine's memory and transactions have bytes, from its first state on.
use Rattle.std.proofs.Common.{◌≡◌, ◌≢◌, ◌<◌, ℕ, ◌+◌, ◌-◌, arith, Bool, true, false, cond, Option, Some, None, List, [], ◌∷◌, refl, sym, ap, subst, ◌∙◌}
use Rattle.std.specs.Prelude.{is_some, ◌==◌, ◌&&◌, nat_le, nat_lt}
use Rattle.std.specs.Option.{unwrap_or}
use Rattle.words.specs.declared.entry.Entry.{Entry}
use Rattle.words.specs.declared.entry.Entry.TheVariants.{Retire, Abort, Trap, Refuse, Spill}
use Rattle.words.specs.Bytes.{bytes_in, byte_of}
use Rattle.table.specs.Program.{Segment, image_at, holds, byte_in}
use Rattle.table.specs.declared.effect.MemoryAct.{MemoryAct}
use Rattle.table.specs.declared.effect.Load.{Load}
use Rattle.table.specs.declared.effect.Act.{Act}
use Rattle.table.specs.declared.effect.Act.TheVariants as act
use Rattle.flat.specs.State.{Setting, FlatHart, Flat, Tx as FlatTx, flat_view, idle}
use Rattle.flat.specs.Effects.{tx_got, tx_put, tx_by, mem_put, mem_by, put_by}
use Rattle.flat.specs.Start.{first_state, first_hart}
use Rattle.flat.specs.Steps.{Carries}
use Rattle.flat.proofs.Covered.{act_covered}
use Rattle.flat.proofs.Entries.{retired_by, aborted_by, hart_retired, hart_back, others_stay}
use Rattle.flat.proofs.Maps.{one_number, two_numbers, put_there}
use Rattle.flat.proofs.Next.{done_ok}
use Rattle.table.specs.Program.{AreBytes}
use Rattle.isolation.proofs.Machine.Invariant.{IsByte, HasBytes}
use Rattle.isolation.proofs.Words.Laying.{WritesBytes, WritesWithin, seen_small}

-- Memory after an act

either_small : (b : Bool) (x y : ℕ) → x < 256 → y < 256 → cond b x y < 256
either_small true x y hx hy = hx
either_small false x y hx hy = hy

byte_of_small : (v k : ℕ) → byte_of v k < 256
byte_of_small v k = omega arith

put_small : (mem : ℕ → ℕ) (m : MemoryAct) (v : Option ℕ) → ((a : ℕ) → mem a < 256) → (a : ℕ) → mem_put mem m v a < 256
put_small mem m None small a = small a
put_small mem m (Some v) small a = either_small (nat_le m.addr a && nat_lt a (m.addr + bytes_in m.width)) (byte_of v (a - m.addr)) (mem a) (byte_of_small v (a - m.addr)) (small a)

-- an act leaves bytes in memory
mem_small : (view : ℕ → ℕ) (tx : Option FlatTx) (mem : ℕ → ℕ) (does : Act) → ((a : ℕ) → mem a < 256) → WritesBytes tx → (a : ℕ) → mem_by view tx mem does a < 256
mem_small view None mem (act.Memory m) small bytes a = put_small mem m (put_by view m) small a
mem_small view (Some t) mem act.Commit small bytes a = either_small (t.depth == 1) (unwrap_or (t.writes a) (mem a)) (mem a) (seen_small (Some t) mem bytes small a) (small a)
mem_small view tx mem does small bytes a = small a

-- A transaction after an act

either_byte : (b : Bool) (x y : Option ℕ) → IsByte x → IsByte y → IsByte (cond b x y)
either_byte true x y hx hy = hx
either_byte false x y hx hy = hy

got_bytes : (t : FlatTx) (m : MemoryAct) (l : Option Load) → WritesBytes (Some t) → WritesBytes (Some (tx_got t m l))
got_bytes t m None bytes = bytes
got_bytes t m (Some l) bytes = bytes

put_bytes : (t : FlatTx) (m : MemoryAct) (v : Option ℕ) → WritesBytes (Some t) → WritesBytes (Some (tx_put t m v))
put_bytes t m None bytes = bytes
put_bytes t m (Some v) bytes = λ a.
    either_byte (nat_le m.addr a && nat_lt a (m.addr + bytes_in m.width)) (Some (byte_of v (a - m.addr))) (t.writes a) (byte_of_small v (a - m.addr)) (bytes a)

left_bytes : (t : FlatTx) (b : Bool) → WritesBytes (Some t) → WritesBytes (cond b None (Some (record t { depth = t.depth - 1 })))
left_bytes t true bytes = λ a. tt
left_bytes t false bytes = bytes

-- an act leaves bytes in a transaction
tx_bytes : (view : ℕ → ℕ) (h : FlatHart) (tx : Option FlatTx) (does : Act) → WritesBytes tx → WritesBytes (tx_by view h tx does)
tx_bytes view h (Some t) (act.Memory m) bytes = put_bytes (tx_got t m m.load) m (put_by view m) (got_bytes t m m.load bytes)
tx_bytes view h None (act.Begin p) bytes = λ a. tt
tx_bytes view h (Some t) (act.Begin p) bytes = bytes
tx_bytes view h (Some t) act.Commit bytes = left_bytes t (t.depth == 1) bytes
tx_bytes view h tx does bytes = bytes

-- Entries

-- one hart is new
one_new : (f g : Flat) (k : ℕ) → HasBytes f → ((a : ℕ) → g.mem a < 256) → ((j : ℕ) → j ≢ k → g.hart j ≡ f.hart j)
    → WritesBytes (g.hart k).tx → WritesWithin (g.hart k).tx → HasBytes g
one_new f g k old mem others bytes within = record {
  mem = mem;
  writes = λ i. writes_of i (i == k) refl;
  within = λ i. within_of i (i == k) refl;
} where
  writes_of : (i : ℕ) (b : Bool) → (i == k) ≡ b → WritesBytes (g.hart i).tx
  writes_of i true e = subst (λ n. WritesBytes (g.hart n).tx) (sym (one_number i k e)) bytes
  writes_of i false e = subst (λ (h : FlatHart). WritesBytes h.tx) (sym (others i (two_numbers i k e))) (old.writes i)

  within_of : (i : ℕ) (b : Bool) → (i == k) ≡ b → WritesWithin (g.hart i).tx
  within_of i true e = subst (λ n. WritesWithin (g.hart n).tx) (sym (one_number i k e)) within
  within_of i false e = subst (λ (h : FlatHart). WritesWithin h.tx) (sym (others i (two_numbers i k e))) (old.within i)

-- an entry keeps bytes bytes
pub bytes_kept : (f g : Flat) (e : Entry) → Carries f e g → HasBytes f → HasBytes g
bytes_kept f g (Retire i pc w x l s) k old =
    let r = retired_by f g i pc w x l s k in
    let mem : g.mem ≡ (λ a. mem_by (flat_view f i) (f.hart i).tx f.mem r.0.act a) = ap (λ (m : Flat). m.mem) r.2.after in
    let tx : (g.hart i).tx ≡ tx_by (flat_view f i) (f.hart i) (f.hart i).tx r.0.act = ap (λ (h : FlatHart). h.tx) (hart_retired f g i r.0 r.2.after) in
    one_new f g i old
    (λ a. subst (λ n. n < 256) (sym (ap (λ (m : ℕ → ℕ). m a) mem)) (mem_small (flat_view f i) (f.hart i).tx f.mem r.0.act old.mem (old.writes i) a))
    (others_stay f g (Retire i pc w x l s) k)
    (subst WritesBytes (sym tx) (tx_bytes (flat_view f i) (f.hart i) (f.hart i).tx r.0.act (old.writes i)))
    (subst WritesWithin (sym tx) (act_covered f.setting (f.hart i) (flat_view f i) (f.hart i) (f.hart i).tx r.0.act (done_ok f.setting (f.hart i) (is_some s) r.0 r.1) (old.within i)))
bytes_kept f g (Abort i c) k old =
    let r = aborted_by f g i c k in
    let tx : (g.hart i).tx ≡ None = ap (λ (h : FlatHart). h.tx) (hart_back f g i c r.0 r.2.after) in
    one_new f g i old
    (λ a. subst (λ n. n < 256) (sym (ap (λ (m : Flat). m.mem a) r.2.after)) (old.mem a))
    (others_stay f g (Abort i c) k)
    (subst WritesBytes (sym tx) (λ a. tt))
    (subst WritesWithin (sym tx) (λ a e. refl))
bytes_kept f g (Trap i c p) k old =
    let tx : (g.hart i).tx ≡ (f.hart i).tx = ap (λ (h : FlatHart). h.tx) (ap (λ (m : Flat). m.hart i) k.after ∙ put_there i _ f.hart) in
    one_new f g i old
    (λ a. subst (λ n. n < 256) (sym (ap (λ (m : Flat). m.mem a) k.after)) (old.mem a))
    (others_stay f g (Trap i c p) k)
    (subst WritesBytes (sym tx) (old.writes i))
    (subst WritesWithin (sym tx) (old.within i))
bytes_kept f g (Refuse i j b) k old = subst HasBytes (sym k) old
bytes_kept f g (Spill i b) k old = subst HasBytes (sym k) old

-- The first state

image_small : (ss : List Segment) → AreBytes ss → (a : ℕ) → image_at ss a < 256
image_small [] bytes a = omega arith
image_small (s ∷ ss) bytes a = either_small (holds s a 1) (byte_in s a) (image_at ss a) (bytes.0 (a - s.addr)) (image_small ss bytes.1 a)

first_outside : (s : Setting) (entry i : ℕ) (b : Bool) → (cond b (first_hart s entry i) idle).tx ≡ None
first_outside s entry i true = refl
first_outside s entry i false = refl

-- the first state has bytes
pub bytes_first : (s : Setting) (entry : ℕ) → AreBytes s.segments → HasBytes (first_state s entry)
bytes_first s entry bytes = record {
  mem = image_small s.segments bytes;
  writes = λ i. subst WritesBytes (sym (first_outside s entry i (nat_lt i s.count))) (λ a. tt);
  within = λ i. subst WritesWithin (sym (first_outside s entry i (nat_lt i s.count))) (λ a e. refl);
}
