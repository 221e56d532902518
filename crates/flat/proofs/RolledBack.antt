-- What an abort gives back: the registers of the transaction's begin, and the output as it was.
use Rattle.std.proofs.Common.{◌≡◌, ℕ, ◌-◌, Bool, true, false, cond, Option, Some, None, List, [], ◌∷◌, refl, sym, ap, ◌∙◌, subst}
use Rattle.std.specs.Prelude.{is_some, ◌==◌, IsSome}
use Rattle.words.specs.declared.entry.Entry.{Entry}
use Rattle.words.specs.declared.entry.Entry.TheVariants.{Retire, Abort, Trap, Refuse, Spill}
use Rattle.words.specs.declared.cause.AbortCause.{AbortCause}
use Rattle.table.specs.declared.effect.MemoryAct.{MemoryAct}
use Rattle.table.specs.declared.effect.Load.{Load}
use Rattle.table.specs.declared.effect.Act.{Act}
use Rattle.table.specs.declared.effect.Act.TheVariants as act
use Rattle.flat.specs.State.{Setting, Flat, FlatHart, Tx, flat_view}
use Rattle.flat.specs.Causes.{act_cause}
use Rattle.flat.specs.Effects.{tx_by, tx_got, tx_put, put_by, output_by}
use Rattle.flat.specs.Steps.{Carries, hart_of}
use Rattle.flat.specs.Attempts.{StaysInside, IsAttempt}
use Rattle.flat.proofs.Maps.{two_numbers, one_number, put_there}
use Rattle.flat.proofs.Next.{done_ok}
use Rattle.flat.proofs.Entries.{retired_by, aborted_by, hart_retired, hart_back, others_stay}

-- the registers that an abort would leave
abbrev pub kept_regs : Option Tx → List ℕ → List ℕ
kept_regs None regs = regs
kept_regs (Some t) regs = t.checkpoint

-- a load keeps the checkpoint
got_kept : (t : Tx) (m : MemoryAct) (l : Option Load) → (tx_got t m l).checkpoint ≡ t.checkpoint
got_kept t m None = refl
got_kept t m (Some l) = refl

-- a store keeps it
put_kept : (t : Tx) (m : MemoryAct) (v : Option ℕ) → (tx_put t m v).checkpoint ≡ t.checkpoint
put_kept t m None = refl
put_kept t m (Some v) = refl

-- an inner commit keeps it
left_kept : (t : Tx) (b : Bool) (regs : List ℕ) → IsSome (cond b None (Some (record t { depth = t.depth - 1 }))) → kept_regs (cond b None (Some (record t { depth = t.depth - 1 }))) regs ≡ t.checkpoint
left_kept t true regs k = cc
left_kept t false regs k = refl

-- an act after which the hart is in a transaction keeps them
act_keeps : (view : ℕ → ℕ) (h : FlatHart) (tx : Option Tx) (does : Act) (regs : List ℕ) → IsSome (tx_by view h tx does) → kept_regs (tx_by view h tx does) regs ≡ kept_regs tx h.regs
act_keeps view h (Some t) (act.Memory m) regs k = put_kept (tx_got t m m.load) m (put_by view m) ∙ got_kept t m m.load
act_keeps view h None (act.Begin p) regs k = refl
act_keeps view h (Some t) act.Commit regs k = left_kept t (t.depth == 1) regs k
act_keeps view h None does regs k = cc
act_keeps view h (Some t) does regs k = refl

-- in a transaction no call is without a cause
no_call : (s : Setting) (h : FlatHart) (tx : Option Tx) → tx ≡ h.tx → IsSome tx → act_cause s h act.Call ≡ None → ⊥
no_call s h (Some t) e k n = let call : act_cause s (record h { tx = Some t }) act.Call ≡ None = subst (λ o. act_cause s (record h { tx = o }) act.Call ≡ None) (sym e) n in cc
no_call s h None e k n = cc

-- and puts nothing out
act_silent : (s : Setting) (view : ℕ → ℕ) (h : FlatHart) (does : Act) → act_cause s h does ≡ None → IsSome (tx_by view h h.tx does) → output_by h.output h.regs does ≡ h.output
act_silent s view h act.Call n k = absurd (no_call s h h.tx refl k n)
act_silent s view h does n k = refl

-- what an abort would leave of the registers, and what was put out
abbrev pub IsBackAt : List ℕ → List ℕ → FlatHart → Type 0
IsBackAt regs out h = (kept_regs h.tx h.regs ≡ regs) × (h.output ≡ out)

-- an entry after which its hart is in a transaction
own_keeps : (f g : Flat) (e : Entry) (regs out : List ℕ) → Carries f e g → IsSome (g.hart (hart_of e)).tx → IsBackAt regs out (f.hart (hart_of e)) → IsBackAt regs out (g.hart (hart_of e))
own_keeps f g (Retire i pc w x l s) regs out k inside b =
    let r = retired_by f g i pc w x l s k in
    let after = hart_retired f g i r.0 r.2.after in
    let now = subst (λ (h : FlatHart). IsSome h.tx) after inside in
    subst (IsBackAt regs out) (sym after) (
      act_keeps (flat_view f i) (f.hart i) (f.hart i).tx r.0.act _ now ∙ b.0,
      act_silent f.setting (flat_view f i) (f.hart i) r.0.act (done_ok f.setting (f.hart i) (is_some s) r.0 r.1) now ∙ b.1,
    )
own_keeps f g (Abort i c) regs out k inside b =
    let r = aborted_by f g i c k in
    let none : (g.hart i).tx ≡ None = ap (λ (h : FlatHart). h.tx) (hart_back f g i c r.0 r.2.after) in
    absurd (some_none (g.hart i).tx inside none) where
      some_none : (o : Option Tx) → IsSome o → o ≡ None → ⊥
      some_none (Some t) k e = cc
      some_none None k e = cc
own_keeps f g (Trap i c p) regs out k inside b = subst (IsBackAt regs out) (sym (ap (λ (m : Flat). m.hart i) k.after ∙ put_there i _ f.hart)) b
own_keeps f g (Refuse i j b) regs out e inside k = subst (IsBackAt regs out) (ap (λ (m : Flat). m.hart i) (sym e)) k
own_keeps f g (Spill i b) regs out e inside k = subst (IsBackAt regs out) (ap (λ (m : Flat). m.hart i) (sym e)) k

-- an entry after which hart i is in a transaction
entry_keeps : (f g : Flat) (e : Entry) (i : ℕ) (regs out : List ℕ) → Carries f e g → IsSome (g.hart i).tx → IsBackAt regs out (f.hart i) → IsBackAt regs out (g.hart i)
entry_keeps f g e i regs out k inside b = by (i == hart_of e) refl where
  by : (t : Bool) → (i == hart_of e) ≡ t → IsBackAt regs out (g.hart i)
  by true own =
      let s = one_number i (hart_of e) own in
      subst (λ n. IsBackAt regs out (g.hart n)) (sym s) (own_keeps f g e regs out k (subst (λ n. IsSome (g.hart n).tx) s inside) (subst (λ n. IsBackAt regs out (f.hart n)) s b))
  by false other = subst (IsBackAt regs out) (sym (others_stay f g e k i (two_numbers i (hart_of e) other))) b

-- and entries of that kind
inside_keeps : (i : ℕ) (regs out : List ℕ) (f g : Flat) (es : List Entry) → StaysInside i f es g → IsBackAt regs out (f.hart i) → IsBackAt regs out (g.hart i)
inside_keeps i regs out f g [] k b = subst (IsBackAt regs out) (ap (λ (m : Flat). m.hart i) (sym k)) b
inside_keeps i regs out f g (e ∷ es) k b = inside_keeps i regs out k.0 g es k.3 (entry_keeps f k.0 e i regs out k.1 k.2 b)

-- the hart after the abort
pub given_back : (i : ℕ) (f g h : Flat) (es : List Entry) (c : AbortCause) → IsAttempt i f es g → Carries g (Abort i c) h
    → ((h.hart i).regs ≡ (f.hart i).regs) × ((h.hart i).output ≡ (f.hart i).output) × ((h.hart i).tx ≡ None)
given_back i f g h es c a k =
    let r = aborted_by g h i c k in
    let after = hart_back g h i c r.0 r.2.after in
    let first : kept_regs (f.hart i).tx (f.hart i).regs ≡ (f.hart i).regs = ap (λ o. kept_regs o (f.hart i).regs) a.before in
    let b = inside_keeps i (f.hart i).regs (f.hart i).output f g es a.inside (first, refl) in (
      ap (λ (x : FlatHart). x.regs) after ∙ ap (λ o. kept_regs o (g.hart i).regs) (sym r.1) ∙ b.0,
      ap (λ (x : FlatHart). x.output) after ∙ b.1,
      ap (λ (x : FlatHart). x.tx) after,
    )
