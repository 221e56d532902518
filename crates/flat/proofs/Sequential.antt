-- In a run without transactions memory is what the stores before have made of it, and each load gives what stands there.
use Rattle.std.proofs.Common.{◌≡◌, ℕ, ◌+◌, ◌*◌, ◌-◌, cond, Option, Some, None, List, [], ◌∷◌, refl, sym, ap, ◌∙◌, subst}
use Rattle.std.specs.Prelude.{◌&&◌, nat_le, nat_lt}
use Rattle.std.specs.Option.{option_map}
use Rattle.words.specs.declared.entry.Access.{Access}
use Rattle.words.specs.declared.entry.Entry.{Entry}
use Rattle.words.specs.declared.entry.Entry.TheVariants.{Retire, Abort, Trap, Refuse, Spill}
use Rattle.words.specs.declared.entry.Width.{Width}
use Rattle.words.specs.declared.entry.Width.TheVariants.{Byte, Half, Word}
use Rattle.words.specs.Bytes.{bytes_in, byte_of, number_at}
use Rattle.table.specs.declared.effect.MemoryAct.{MemoryAct}
use Rattle.table.specs.declared.effect.Load.{Load}
use Rattle.table.specs.declared.effect.Act.{Act}
use Rattle.table.specs.declared.effect.Act.TheVariants as act
use Rattle.flat.specs.State.{Flat, Tx, flat_view, seen}
use Rattle.flat.specs.Effects.{access, old_of, put_by, load_by, store_by, mem_put, mem_by}
use Rattle.flat.specs.Steps.{Carries, hart_of}
use Rattle.flat.specs.Order.{stored, store_in, after_stores, IsPlain, IsPlainRun}
use Rattle.flat.proofs.Entries.{retired_by, aborted_by}

-- what is put is the store of the entry
put_stores : (mem : ℕ → ℕ) (m : MemoryAct) (p : Option ℕ) (a : ℕ) → mem_put mem m p a ≡ stored (option_map (access m) p) mem a
put_stores mem m None a = refl
put_stores mem m (Some v) a = refl

act_stores : (view mem : ℕ → ℕ) (does : Act) (a : ℕ) → mem_by view None mem does a ≡ stored (store_by view does) mem a
act_stores view mem act.Nothing a = refl
act_stores view mem (act.Memory m) a = put_stores mem m (put_by view m) a
act_stores view mem (act.Conditional rd m) a = refl
act_stores view mem (act.Begin p) a = refl
act_stores view mem act.Commit a = refl
act_stores view mem act.Abort a = refl
act_stores view mem act.Call a = refl
act_stores view mem act.Break a = refl

-- outside transactions an entry changes memory by its store
entry_stores : (f g : Flat) (e : Entry) → Carries f e g → (f.hart (hart_of e)).tx ≡ None → (a : ℕ) → g.mem a ≡ stored (store_in e) f.mem a
entry_stores f g (Retire i pc w x l s) k plain a =
    let r = retired_by f g i pc w x l s k in
    ap (λ (m : Flat). m.mem a) r.2.after
    ∙ ap (λ (t : Option Tx). mem_by (flat_view f i) t f.mem r.0.act a) plain
    ∙ act_stores (flat_view f i) f.mem r.0.act a
    ∙ ap (λ (e : Entry). stored (store_in e) f.mem a) (sym r.2.entry)
entry_stores f g (Abort i c) k plain a = let r = aborted_by f g i c k in ap (λ (m : Flat). m.mem a) r.2.after
entry_stores f g (Trap i c p) k plain a = ap (λ (m : Flat). m.mem a) k.after
entry_stores f g (Refuse i j b) k plain a = ap (λ (m : Flat). m.mem a) k
entry_stores f g (Spill i b) k plain a = ap (λ (m : Flat). m.mem a) k

-- of two memories that are the same, stores make the same
stored_same : (s : Option Access) (m n : ℕ → ℕ) → ((a : ℕ) → m a ≡ n a) → (a : ℕ) → stored s m a ≡ stored s n a
stored_same None m n same a = same a
stored_same (Some s) m n same a = ap (cond (nat_le s.addr a && nat_lt a (s.addr + bytes_in s.width)) (byte_of s.value (a - s.addr))) (same a)

after_same : (es : List Entry) (m n : ℕ → ℕ) → ((a : ℕ) → m a ≡ n a) → (a : ℕ) → after_stores es m a ≡ after_stores es n a
after_same [] m n same a = same a
after_same (e ∷ es) m n same a = after_same es (stored (store_in e) m) (stored (store_in e) n) (stored_same (store_in e) m n same) a

-- memory after a run
pub run_stores : (f g : Flat) (es : List Entry) (a : ℕ) → IsPlainRun f es g → g.mem a ≡ after_stores es f.mem a
run_stores f g [] a r = ap (λ (m : Flat). m.mem a) r.1
run_stores f g (e ∷ es) a r =
    run_stores r.1.0 g es a r.1.2
    ∙ after_same es (r.1.0).mem (stored (store_in e) f.mem) (entry_stores f r.1.0 e r.1.1 (r.0 (hart_of e))) a

-- and no hart is in a transaction then
run_is_plain : (f g : Flat) (es : List Entry) → IsPlainRun f es g → IsPlain g
run_is_plain f g [] r = subst IsPlain (sym r.1) r.0
run_is_plain f g (e ∷ es) r = run_is_plain r.1.0 g es r.1.2

some_is : (k l : Access) → Some l ≡ Some k → k ≡ l
some_is k l e = cc

-- a load in an entry is what its hart saw
got_loads : (view : ℕ → ℕ) (m : MemoryAct) (got : Option Load) (l : Access) → Some l ≡ option_map (λ x. access m (old_of view m)) got → l.value ≡ number_at view l.addr l.width
got_loads view m None l e = cc
got_loads view m (Some x) l e = subst (λ (k : Access). k.value ≡ number_at view k.addr k.width) (some_is (access m (old_of view m)) l e) refl

act_loads : (view : ℕ → ℕ) (does : Act) (l : Access) → Some l ≡ load_by view does → l.value ≡ number_at view l.addr l.width
act_loads view act.Nothing l e = cc
act_loads view (act.Memory m) l e = got_loads view m m.load l e
act_loads view (act.Conditional rd m) l e = cc
act_loads view (act.Begin p) l e = cc
act_loads view act.Commit l e = cc
act_loads view act.Abort l e = cc
act_loads view act.Call l e = cc
act_loads view act.Break l e = cc

abbrev load_in : Entry → Option Access
load_in (Retire i pc word write load store) = load
load_in e = None

number_same : (m n : ℕ → ℕ) → ((a : ℕ) → m a ≡ n a) → (a : ℕ) (width : Width) → number_at m a width ≡ number_at n a width
number_same m n same a Byte = same a
number_same m n same a Half = let p = same a in let q = same (a + 1) in cc
number_same m n same a Word = let p = same a in let q = same (a + 1) in let r = same (a + 2) in let s = same (a + 3) in cc

-- in a run without transactions it is what the stores before have left
pub run_loads : (f g h : Flat) (es : List Entry) (i pc w : ℕ) (x : Option (ℕ × ℕ)) (l : Access) (s : Option Access)
    → IsPlainRun f es g → Carries g (Retire i pc w x (Some l) s) h → l.value ≡ number_at (after_stores es f.mem) l.addr l.width
run_loads f g h es i pc w x l s r k =
    let t = retired_by g h i pc w x (Some l) s k in
    let plain = run_is_plain f g es r i in
    let view = λ (a : ℕ). ap (λ (tx : Option Tx). seen tx g.mem a) plain ∙ run_stores f g es a r in
    act_loads (flat_view g i) t.0.act l (ap load_in t.2.entry)
    ∙ number_same (flat_view g i) (after_stores es f.mem) view l.addr l.width
