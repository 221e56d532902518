-- What the plain machine finds out about an entry is whether the entry can come.
use Rattle.std.proofs.Common.{◌≡◌, ℕ, Option, Some, None, Result, Ok, Err, List, [], ◌∷◌, ◌++◌, refl, sym, ap, subst, ◌∙◌}
use Rattle.std.specs.Prelude.{is_some, IsOkAnd, IsSomeAnd, IfOk}
use Rattle.words.specs.declared.cause.Cause.{Cause}
use Rattle.words.specs.declared.cause.AbortCause.{AbortCause}
use Rattle.words.specs.declared.entry.Access.{Access}
use Rattle.words.specs.declared.entry.Entry.{Entry}
use Rattle.words.specs.declared.entry.Entry.TheVariants.{Retire}
use Rattle.table.specs.declared.effect.Effect.{Effect}
use Rattle.flat.specs.State.{Flat, FlatHart, Tx, flat_view}
use Rattle.flat.specs.Causes.{next_of, done_next}
use Rattle.flat.specs.Effects.{retire_of}
use Rattle.flat.specs.Steps.{Retires, Carries, IsRun, MayAbort, retired}
use Rattle.reference.specs.declared.machine.NextMove.{NextMove}
use Rattle.reference.specs.declared.machine.NextMove.TheVariants.{Idle, Stops, Goes}
use Rattle.reference.specs.Machines.{IsNextMove, has_store, CanRetire, RetiresAs, CanAbort, IsDueAbort}

-- a transaction is rolled back for a cause that is due
some_due : (f : Flat) (i : ℕ) (cause : AbortCause) (h : FlatHart) (t : Tx) (r : Result Effect Cause)
    → f.hart i ≡ h → h.tx ≡ Some t → next_of f.setting (f.hart i) ≡ r → MayAbort cause h t r
    → IsSomeAnd (f.hart i).tx (λ t. MayAbort cause (f.hart i) t (next_of f.setting (f.hart i)))
some_due f i cause h t r at is next may =
    let N = next_of f.setting (f.hart i) in
    let P = λ (x : FlatHart). IsSomeAnd x.tx (λ t. MayAbort cause x t N) in
    let Q = λ (o : Option Tx). IsSomeAnd o (λ t. MayAbort cause h t N) in
    let R = λ (r : Result Effect Cause). MayAbort cause h t r in
    subst P (sym at) (subst Q (sym is) (subst R (sym next) may))

pub due_can : (f : Flat) (i : ℕ) (cause : AbortCause) (next : NextMove) (h : FlatHart) (t : Tx) → f.hart i ≡ h → h.tx ≡ Some t → IsNextMove f i next → IsDueAbort cause h t next → CanAbort f i cause
due_can f i cause Idle h t at is next due = absurd due
due_can f i cause (Stops c) h t at is next due = (next.0, some_due f i cause h t (Err c) at is next.1 due)
due_can f i cause (Goes w e) h t at is next due = (next.0, some_due f i cause h t (Ok e) at is next.2 due)

-- and for no other
due_some : (f : Flat) (i : ℕ) (cause : AbortCause) (h : FlatHart) (t : Tx) (r : Result Effect Cause)
    → f.hart i ≡ h → h.tx ≡ Some t → next_of f.setting (f.hart i) ≡ r
    → IsSomeAnd (f.hart i).tx (λ t. MayAbort cause (f.hart i) t (next_of f.setting (f.hart i))) → MayAbort cause h t r
due_some f i cause h t r at is next can =
    let N = next_of f.setting (f.hart i) in
    let P = λ (x : FlatHart). IsSomeAnd x.tx (λ t. MayAbort cause x t N) in
    let Q = λ (o : Option Tx). IsSomeAnd o (λ t. MayAbort cause h t N) in
    let R = λ (r : Result Effect Cause). MayAbort cause h t r in
    subst R next (subst Q is (subst P at can))

pub can_due : (f : Flat) (i : ℕ) (cause : AbortCause) (next : NextMove) (h : FlatHart) (t : Tx) → f.hart i ≡ h → h.tx ≡ Some t → IsNextMove f i next → CanAbort f i cause → IsDueAbort cause h t next
can_due f i cause Idle h t at is next can = next can.0
can_due f i cause (Stops c) h t at is next can = due_some f i cause h t (Err c) at is next.1 can.1
can_due f i cause (Goes w e) h t at is next can = due_some f i cause h t (Ok e) at is next.2 can.1

-- without a transaction, none is rolled back
pub none_aborts : (f : Flat) (i : ℕ) (cause : AbortCause) (h : FlatHart) → f.hart i ≡ h → h.tx ≡ None → CanAbort f i cause → ⊥
none_aborts f i cause h at is can =
    let P = λ (x : FlatHart). IsSomeAnd x.tx (λ t. MayAbort cause (f.hart i) t (next_of f.setting (f.hart i))) in
    let Q = λ (o : Option Tx). IsSomeAnd o (λ t. MayAbort cause (f.hart i) t (next_of f.setting (f.hart i))) in
    subst Q is (subst P at can.1)

-- nothing is retired where nothing can be
pub none_retires : (f : Flat) (i : ℕ) (e : Entry) (g : Flat) (r : Result Effect Cause) → ((w : ℕ) → (e : Entry) (g : Flat) → IsOkAnd r (λ does. Retires f i w does e g) → ⊥) → IsOkAnd r (λ does. (w : ℕ) × Retires f i w does e g) → ⊥
none_retires f i e g (Ok x) n p = n p.0 e g p.1
none_retires f i e g (Err c) n p = p

-- no other entry is retired than the planned one
pub only_planned : (f g : Flat) (i w : ℕ) (does : Effect) (e planned : Entry) → CanRetire f i (has_store e) w does planned → RetiresAs f i e g → planned ≡ e
only_planned f g i w does e planned can had =
    let P = λ (r : Result Effect Cause). IsOkAnd r (λ does. (w : ℕ) × Retires f i w does e g) in
    let p = subst P can.0 had in
    let a : Some p.0 ≡ Some w = sym p.1.fetched ∙ can.1.fetched in
    let k : p.0 ≡ w = cc in
    can.1.entry ∙ ap (λ w. retire_of (flat_view f i) i (f.hart i) w does) (sym k) ∙ sym p.1.entry

pub planned_retires : (f g : Flat) (i w : ℕ) (does : Effect) (e planned : Entry) → CanRetire f i (has_store e) w does planned → planned ≡ e → g ≡ retired f i does → RetiresAs f i e g
planned_retires f g i w does e planned can same new =
    let P = λ (r : Result Effect Cause). IsOkAnd r (λ does. (w : ℕ) × Retires f i w does e g) in
    subst P (sym can.0) (w, record { running = can.1.running; fetched = can.1.fetched; no_abort = can.1.no_abort; allowed = can.1.allowed; entry = sym same ∙ can.1.entry; after = new })

-- a Retire entry carries as the hart retires
as_carries : (f g : Flat) (i pc w : ℕ) (x : Option (ℕ × ℕ)) (l s : Option Access) (r : Result Effect Cause)
    → IsOkAnd r (λ does. (v : ℕ) × Retires f i v does (Retire i pc w x l s) g) → IsOkAnd r (λ does. Retires f i w does (Retire i pc w x l s) g)
as_carries f g i pc w x l s (Ok does) p =
    let e = p.1.entry in
    let k : p.0 ≡ w = cc in
    subst (λ v. Retires f i v does (Retire i pc w x l s) g) k p.1
as_carries f g i pc w x l s (Err c) p = p

carries_as : (f g : Flat) (i pc w : ℕ) (x : Option (ℕ × ℕ)) (l s : Option Access) (r : Result Effect Cause)
    → IsOkAnd r (λ does. Retires f i w does (Retire i pc w x l s) g) → IsOkAnd r (λ does. (v : ℕ) × Retires f i v does (Retire i pc w x l s) g)
carries_as f g i pc w x l s (Ok does) p = (w, p)
carries_as f g i pc w x l s (Err c) p = p

pub to_carries : (f g : Flat) (e : Entry) (i pc w : ℕ) (x : Option (ℕ × ℕ)) (l s : Option Access) → e ≡ Retire i pc w x l s → RetiresAs f i e g → Carries f e g
to_carries f g e i pc w x l s k p =
    subst (λ e. Carries f e g) (sym k) (as_carries f g i pc w x l s (done_next (is_some s) f.setting (f.hart i)) (subst (λ e. RetiresAs f i e g) k p))

pub from_carries : (f g : Flat) (e : Entry) (i pc w : ℕ) (x : Option (ℕ × ℕ)) (l s : Option Access) → e ≡ Retire i pc w x l s → Carries f e g → RetiresAs f i e g
from_carries f g e i pc w x l s k p =
    subst (λ e. RetiresAs f i e g) (sym k) (carries_as f g i pc w x l s (done_next (is_some s) f.setting (f.hart i)) (subst (λ e. Carries f e g) k p))

pub if_ok : {T E : Type 0} (r : Result T E) (P Q : T → Type 0) → ((x : T) → P x → Q x) → IfOk r P → IfOk r Q
if_ok (Ok x) P Q f p = f x p
if_ok (Err e) P Q f p = tt

-- a run goes on by one entry
pub run_more : (f g h : Flat) (es : List Entry) (e : Entry) → IsRun f es g → Carries g e h → IsRun f (es ++ e ∷ []) h
run_more f g h [] e r c = (h, subst (λ x. Carries x e h) r c, refl)
run_more f g h (x ∷ es) e r c = (r.0, r.1, run_more r.0 g h es e r.2 c)
