-- While a transaction goes on, its claims grow.
use Rattle.std.proofs.Common.{◌≡◌, ℕ, ◌-◌, ◌/◌, Bool, true, false, cond, Option, Some, None, refl, ap, ◌∙◌, sym, subst}
use Rattle.std.specs.Prelude.{◌==◌, IsSome}
use Rattle.std.specs.Option.{option_map}
use Rattle.table.specs.declared.effect.MemoryAct.{MemoryAct}
use Rattle.table.specs.declared.effect.Load.{Load}
use Rattle.table.specs.declared.effect.Act.{Act}
use Rattle.flat.specs.State.{Flat, FlatHart, Tx, has_read, has_written, flat_view}
use Rattle.flat.specs.Effects.{tx_by, tx_got, tx_put, put_of}
use Rattle.words.specs.declared.entry.Entry.{Entry}
use Rattle.words.specs.declared.entry.Entry.TheVariants.{Retire, Abort, Trap, Refuse, Spill}
use Rattle.flat.specs.Steps.{Carries, hart_of}
use Rattle.flat.proofs.Maps.{put_there}
use Rattle.flat.proofs.Entries.{retired_by, aborted_by, hart_retired, hart_back}
use Rattle.table.specs.declared.effect.Act.TheVariants as act

-- what is not in a grown set was not in the set
or_was : (c old : Bool) → cond c true old ≡ false → old ≡ false
or_was true old e = cc
or_was false old e = e

-- a load
got_grows : (t : Tx) (m : MemoryAct) (l : Option Load) (b : ℕ) → has_read (Some (tx_got t m l)) b ≡ false → t.read_set b ≡ false
got_grows t m None b e = e
got_grows t m (Some l) b e = or_was (b == (m.addr / 32)) (t.read_set b) e

-- a commit, of what was read
left_reads : (t : Tx) (c : Bool) (b : ℕ) → IsSome (cond c None (Some (record t { depth = t.depth - 1 }))) → has_read (cond c None (Some (record t { depth = t.depth - 1 }))) b ≡ false → t.read_set b ≡ false
left_reads t true b k e = cc
left_reads t false b k e = e

-- and of what was written
left_writes : (t : Tx) (c : Bool) (b : ℕ) → IsSome (cond c None (Some (record t { depth = t.depth - 1 }))) → has_written (cond c None (Some (record t { depth = t.depth - 1 }))) b ≡ false → t.write_set b ≡ false
left_writes t true b k e = cc
left_writes t false b k e = e

-- an access, of what was read
access_reads : (t : Tx) (m : MemoryAct) (l : Option Load) (v : Option ℕ) (b : ℕ) → has_read (Some (tx_put (tx_got t m l) m v)) b ≡ false → t.read_set b ≡ false
access_reads t m l None b e = got_grows t m l b e
access_reads t m l (Some v) b e = got_grows t m l b e

-- and of what was written
access_writes : (t : Tx) (m : MemoryAct) (l : Option Load) (v : Option ℕ) (b : ℕ) → has_written (Some (tx_put (tx_got t m l) m v)) b ≡ false → t.write_set b ≡ false
access_writes t m None None b e = e
access_writes t m (Some l) None b e = e
access_writes t m None (Some v) b e = or_was (b == (m.addr / 32)) (t.write_set b) e
access_writes t m (Some l) (Some v) b e = or_was (b == (m.addr / 32)) (t.write_set b) e

-- while a transaction goes on, what it has read stays read
act_reads : (view : ℕ → ℕ) (h : FlatHart) (tx : Option Tx) (does : Act) (b : ℕ) → IsSome (tx_by view h tx does) → has_read (tx_by view h tx does) b ≡ false → has_read tx b ≡ false
act_reads view h None does b k e = refl
act_reads view h (Some t) (act.Memory m) b k e = access_reads t m m.load (option_map (put_of view m) m.store) b e
act_reads view h (Some t) act.Commit b k e = left_reads t (t.depth == 1) b k e
act_reads view h (Some t) does b k e = e

-- and what it has written stays written
act_writes : (view : ℕ → ℕ) (h : FlatHart) (tx : Option Tx) (does : Act) (b : ℕ) → IsSome (tx_by view h tx does) → has_written (tx_by view h tx does) b ≡ false → has_written tx b ≡ false
act_writes view h None does b k e = refl
act_writes view h (Some t) (act.Memory m) b k e = access_writes t m m.load (option_map (put_of view m) m.store) b e
act_writes view h (Some t) act.Commit b k e = left_writes t (t.depth == 1) b k e
act_writes view h (Some t) does b k e = e

-- no option is there and not there
pub some_none : (o : Option Tx) → IsSome o → o ≡ None → ⊥
some_none (Some t) k e = cc
some_none None k e = cc

-- while a hart's transaction goes on, its claims grow
pub own_grows : (f g : Flat) (e : Entry) → Carries f e g → IsSome (g.hart (hart_of e)).tx → (b : ℕ)
    → (has_read (g.hart (hart_of e)).tx b ≡ false → has_read (f.hart (hart_of e)).tx b ≡ false) × (has_written (g.hart (hart_of e)).tx b ≡ false → has_written (f.hart (hart_of e)).tx b ≡ false)
own_grows f g (Retire i pc w x l s) k inside b =
    let r = retired_by f g i pc w x l s k in
    let tx : (g.hart i).tx ≡ tx_by (flat_view f i) (f.hart i) (f.hart i).tx r.0.act = ap (λ (h : FlatHart). h.tx) (hart_retired f g i r.0 r.2.after) in
    let now = subst (λ o. IsSome o) tx inside in (
      λ e. act_reads (flat_view f i) (f.hart i) (f.hart i).tx r.0.act b now (ap (λ o. has_read o b) (sym tx) ∙ e),
      λ e. act_writes (flat_view f i) (f.hart i) (f.hart i).tx r.0.act b now (ap (λ o. has_written o b) (sym tx) ∙ e),
    )
own_grows f g (Abort i c) k inside b =
    let r = aborted_by f g i c k in
    absurd (some_none (g.hart i).tx inside (ap (λ (h : FlatHart). h.tx) (hart_back f g i c r.0 r.2.after)))
own_grows f g (Trap i c p) k inside b =
    let tx : (f.hart i).tx ≡ (g.hart i).tx = ap (λ (h : FlatHart). h.tx) (sym (ap (λ (m : Flat). m.hart i) k.after ∙ put_there i _ f.hart)) in
    (λ e. ap (λ o. has_read o b) tx ∙ e, λ e. ap (λ o. has_written o b) tx ∙ e)
own_grows f g (Refuse i j c) e inside b = (λ k. ap (λ (m : Flat). has_read (m.hart i).tx b) (sym e) ∙ k, λ k. ap (λ (m : Flat). has_written (m.hart i).tx b) (sym e) ∙ k)
own_grows f g (Spill i c) e inside b = (λ k. ap (λ (m : Flat). has_read (m.hart i).tx b) (sym e) ∙ k, λ k. ap (λ (m : Flat). has_written (m.hart i).tx b) (sym e) ∙ k)
