-- The entries of a hart's own word: there is one at most that is no failure of a conditional store, and one that is; and why there is none.
use Rattle.std.proofs.Common.{◌≡◌, ℕ, Bool, true, false, cond, Option, Some, None, Result, Ok, Err, refl, sym, ap, subst, ◌∙◌}
use Rattle.std.specs.Prelude.{is_some, is_none, not, ◌&&◌, IsOkAnd, IsSome}
use Rattle.std.specs.Option.{unwrap_or}
use Rattle.words.specs.declared.cause.Cause.{Cause}
use Rattle.words.specs.declared.cause.AbortCause.TheVariants.{Asked, Conflict, LogFull, Trapped}
use Rattle.words.specs.declared.entry.Access.{Access}
use Rattle.words.specs.declared.entry.Entry.{Entry}
use Rattle.words.specs.declared.entry.Entry.TheVariants.{Retire, Abort, Trap, Refuse, Spill}
use Rattle.table.specs.declared.effect.Effect.{Effect}
use Rattle.table.specs.declared.effect.Act.{Act}
use Rattle.table.specs.declared.effect.Act.TheVariants as act
use Rattle.table.specs.Effects.{resolved}
use Rattle.table.specs.Program.{word_at}
use Rattle.flat.specs.State.{Flat, Tx, flat_view, IsAllowed}
use Rattle.flat.specs.Causes.{next_of, done_next}
use Rattle.flat.specs.Effects.{retire_of}
use Rattle.flat.specs.Steps.{Carries, IsRunning, is_abort, is_store, hart_of}
use Rattle.flat.proofs.Entries.{retired_by, aborted_by}
use Rattle.isolation.proofs.Words.NextWord.{done_from}
use Rattle.isolation.specs.Moves.{is_access, is_local, IsLocal, MovesBy}
use Rattle.outcomes.specs.Turns.{IsOwn, is_conditional, is_next_conditional, is_failure}
use Rattle.outcomes.proofs.Resolved.{abort_same, shown_so, local_tells}

-- the value that a result has, with what holds of it
pub ok_with : {A E : Type 0} (r : Result A E) (P : A → Type 0) → IsOkAnd r P → (x : A) × (r ≡ Ok x) × P x
ok_with (Ok x) P p = (x, refl, p)
ok_with (Err c) P p = absurd p

some_is : {A : Type 0} (o : Option A) (x : A) → o ≡ Some x → IsSome o
some_is o x e = subst (λ o. IsSome o) (sym e) refl

-- the entry of hart i's own word, by what it does next, and whether it fails
own_by : Flat → ℕ → ℕ → Bool → Result Effect Cause → Option Tx → Entry
own_by f i w failed (Ok d) o = cond (is_abort d.act) (Abort i Asked) (retire_of (flat_view f i) i (f.hart i) w (resolved (not failed) d))
own_by f i w failed (Err c) None = Trap i c (f.hart i).pc
own_by f i w failed (Err c) (Some t) = Abort i (Trapped c (f.hart i).pc)

the_own : Flat → Bool → ℕ → Entry
the_own f failed i = own_by f i (unwrap_or (word_at f.setting.segments (f.hart i).pc) 0) failed (next_of f.setting (f.hart i)) (f.hart i).tx

-- what was retired is what the word does, where a conditional store succeeds or fails as the entry tells
record Word (f : Flat) (i : ℕ) (failed : Bool) (done : Effect) : Type 0 where
  does : Effect
  next : next_of f.setting (f.hart i) ≡ Ok does
  is : resolved (not failed) does ≡ done
  aborts : is_abort done.act ≡ is_abort does.act

word_of : (f : Flat) (i pc w : ℕ) (x : Option (ℕ × ℕ)) (l s : Option Access) (d : Effect) → done_next (is_some s) f.setting (f.hart i) ≡ Ok d
    → Word f i (is_failure f (Retire i pc w x l s)) d
word_of f i pc w x l s d k =
    let e = done_from f.setting (f.hart i) d (is_some s) k in
    record {
      does = e.0;
      next = e.1;
      is = ap (λ n. resolved (not (is_next_conditional n && is_none s)) e.0) e.1 ∙ (shown_so s e.0 ∙ e.2);
      aborts = ap (λ (z : Effect). is_abort z.act) (sym e.2) ∙ abort_same (is_some s) e.0;
    }

own_is : (f g : Flat) (e : Entry) → IsOwn e → Carries f e g → e ≡ the_own f (is_failure f e) (hart_of e)
unfolding own_by the_own
own_is f g (Retire i pc w x l s) o k =
    let r = retired_by f g i pc w x l s k in
    let failed = is_failure f (Retire i pc w x l s) in
    let d = word_of f i pc w x l s r.0 r.1 in
    r.2.entry
    ∙ sym (ap (λ z. retire_of (flat_view f i) i (f.hart i) w z) d.is)
    ∙ sym (ap (λ b. cond b (Abort i Asked) (retire_of (flat_view f i) i (f.hart i) w (resolved (not failed) d.does))) (sym d.aborts ∙ r.2.no_abort))
    ∙ sym (λ p. own_by f i (unwrap_or (r.2.fetched p) 0) failed (d.next p) (f.hart i).tx)
own_is f g (Abort i Asked) o k =
    let r = aborted_by f g i Asked k in
    let d = ok_with (next_of f.setting (f.hart i)) (λ e. is_abort e.act ≡ true) r.2.due in
    let w = unwrap_or (word_at f.setting.segments (f.hart i).pc) 0 in
    sym (ap (λ b. cond b (Abort i Asked) (retire_of (flat_view f i) i (f.hart i) w (resolved true d.0))) d.2)
    ∙ sym (ap (λ n. own_by f i w false n (f.hart i).tx) d.1)
own_is f g (Abort i (Trapped c p)) o k =
    let r = aborted_by f g i (Trapped c p) k in
    let w = unwrap_or (word_at f.setting.segments (f.hart i).pc) 0 in
    ap (λ q. Abort i (Trapped c q)) r.2.due.0
    ∙ sym (λ q. own_by f i w false (r.2.due.1 q) (r.1 q))
own_is f g (Trap i c p) o k =
    let w = unwrap_or (word_at f.setting.segments (f.hart i).pc) 0 in
    ap (λ q. Trap i c q) k.place
    ∙ sym (λ q. own_by f i w false (k.caused q) (k.outside q))
own_is f g (Abort i Conflict) o k = absurd o
own_is f g (Abort i LogFull) o k = absurd o
own_is f g (Refuse i j b) o k = absurd o
own_is f g (Spill i b) o k = absurd o

-- there is one at most
pub one_own : (f g h : Flat) (d e : Entry) (i : ℕ) (failed : Bool) → IsOwn d → IsOwn e → is_failure f d ≡ failed → is_failure f e ≡ failed
    → hart_of d ≡ i → hart_of e ≡ i → Carries f d g → Carries f e h → d ≡ e
one_own f g h d e i failed own also tells so at too k l =
    own_is f g d own k ∙ (λ p. the_own f ((tells ∙ sym so) p) ((at ∙ sym too) p)) ∙ sym (own_is f h e also l)

-- what it takes that there is none, but for a failure
pub record NoOwn (f : Flat) (i : ℕ) : Type 0 where
  pub retires : IsRunning f i → (d : Effect) → next_of f.setting (f.hart i) ≡ Ok d → is_abort d.act ≡ false → IsAllowed f i (resolved true d).act → ⊥
  pub asks : IsRunning f i → (d : Effect) → next_of f.setting (f.hart i) ≡ Ok d → is_abort d.act ≡ true → IsSome (f.hart i).tx → ⊥
  pub caused : IsRunning f i → (c : Cause) → next_of f.setting (f.hart i) ≡ Err c → ⊥

none_there : (f g : Flat) (e : Entry) → NoOwn f (hart_of e) → IsOwn e → is_failure f e ≡ false → Carries f e g → ⊥
none_there f g (Retire i pc w x l s) lacks o tells k =
    let r = retired_by f g i pc w x l s k in
    let d = word_of f i pc w x l s r.0 r.1 in
    let is : r.0 ≡ resolved true d.does = sym d.is ∙ ap (λ b. resolved (not b) d.does) tells in
    lacks.retires r.2.running d.does d.next (sym d.aborts ∙ r.2.no_abort) (subst (λ (z : Effect). IsAllowed f i z.act) is r.2.allowed)
none_there f g (Abort i Asked) lacks o tells k =
    let r = aborted_by f g i Asked k in
    let d = ok_with (next_of f.setting (f.hart i)) (λ e. is_abort e.act ≡ true) r.2.due in
    lacks.asks r.2.running d.0 d.1 d.2 (some_is (f.hart i).tx r.0 r.1)
none_there f g (Abort i (Trapped c p)) lacks o tells k = let r = aborted_by f g i (Trapped c p) k in lacks.caused r.2.running c r.2.due.1
none_there f g (Trap i c p) lacks o tells k = lacks.caused k.running c k.caused
none_there f g (Abort i Conflict) lacks o tells k = o
none_there f g (Abort i LogFull) lacks o tells k = o
none_there f g (Refuse i j b) lacks o tells k = o
none_there f g (Spill i b) lacks o tells k = o

pub no_own : (f : Flat) (i : ℕ) → NoOwn f i → (e : Entry) (g : Flat) → IsOwn e → is_failure f e ≡ false → hart_of e ≡ i → Carries f e g → ⊥
no_own f i lacks e g own tells at k = none_there f g e (subst (NoOwn f) (sym at) lacks) own tells k

-- what it takes that there is no failure
pub record NoFailure (f : Flat) (i : ℕ) : Type 0 where
  pub fails : IsRunning f i → (d : Effect) → next_of f.setting (f.hart i) ≡ Ok d → is_conditional d.act ≡ true → ⊥

is_left : (a b : Bool) → (a && b) ≡ true → a ≡ true
is_left true b k = refl
is_left false b k = k

none_fails : (f g : Flat) (e : Entry) → NoFailure f (hart_of e) → is_failure f e ≡ true → Carries f e g → ⊥
none_fails f g (Retire i pc w x l s) lacks tells k =
    let r = retired_by f g i pc w x l s k in
    let d = word_of f i pc w x l s r.0 r.1 in
    lacks.fails r.2.running d.does d.next (ap is_next_conditional (sym d.next) ∙ is_left (is_next_conditional (next_of f.setting (f.hart i))) (is_none s) tells)
none_fails f g (Abort i c) lacks tells k = cc
none_fails f g (Trap i c p) lacks tells k = cc
none_fails f g (Refuse i j b) lacks tells k = cc
none_fails f g (Spill i b) lacks tells k = cc

pub no_failure : (f : Flat) (i : ℕ) → NoFailure f i → (e : Entry) (g : Flat) → IsOwn e → is_failure f e ≡ true → hart_of e ≡ i → Carries f e g → ⊥
no_failure f i lacks e g own tells at k = none_fails f g e (subst (NoFailure f) (sym at) lacks) tells k

-- such an entry is a move
pub own_moves : (f g : Flat) (e : Entry) → IsOwn e → Carries f e g → MovesBy f e g
own_moves f g (Retire i pc w x l s) o k = k
own_moves f g (Abort i Asked) o k = k
own_moves f g (Abort i (Trapped c p)) o k = k
own_moves f g (Trap i c p) o k = k
own_moves f g (Abort i Conflict) o k = absurd o
own_moves f g (Abort i LogFull) o k = absurd o
own_moves f g (Refuse i j b) o k = absurd o
own_moves f g (Spill i b) o k = absurd o

-- no such word is an access
no_access : (a : Act) → is_local a ≡ true → is_access a ≡ true → ⊥
no_access act.Nothing l k = cc
no_access (act.Memory m) l k = cc
no_access (act.Conditional rd m) l k = cc
no_access (act.Begin p) l k = cc
no_access act.Commit l k = cc
no_access act.Abort l k = cc
no_access act.Call l k = cc
no_access act.Break l k = cc

-- and none stores
no_store : (a : Act) → is_local a ≡ true → is_store a ≡ true → ⊥
no_store act.Nothing l k = cc
no_store (act.Memory m) l k = cc
no_store (act.Conditional rd m) l k = cc
no_store (act.Begin p) l k = cc
no_store act.Commit l k = cc
no_store act.Abort l k = cc
no_store act.Call l k = cc
no_store act.Break l k = cc

-- the word that both speak of is one
both : (r : Result Effect Cause) (p q : Act → Bool) → ((a : Act) → p a ≡ true → q a ≡ true → ⊥) → IsOkAnd r (λ e. p e.act ≡ true) → IsOkAnd r (λ e. q e.act ≡ true) → ⊥
both (Ok e) p q apart k l = apart e.act k l
both (Err c) p q apart k l = k

-- where the word at its pc is seen by nobody else, a hart's move is of its own word
pub local_own : (f g : Flat) (e : Entry) → IsLocal f (hart_of e) → MovesBy f e g → IsOwn e
local_own f g (Retire i pc w x l s) here k = tt
local_own f g (Abort i Asked) here k = tt
local_own f g (Abort i (Trapped c p)) here k = tt
local_own f g (Trap i c p) here k = tt
local_own f g (Abort i Conflict) here k = both (next_of f.setting (f.hart i)) is_local is_access no_access here.word k.0.access
local_own f g (Abort i LogFull) here k =
    let r = aborted_by f g i LogFull k in
    both (next_of f.setting (f.hart i)) is_local is_store no_store here.word r.2.due.0
local_own f g (Refuse i j b) here k = k
local_own f g (Spill i b) here k = k

-- and no failure
pub local_succeeds : (f : Flat) (e : Entry) → IsLocal f (hart_of e) → is_failure f e ≡ false
local_succeeds f (Retire i pc w x l s) here = local_tells (next_of f.setting (f.hart i)) (is_none s) here.word
local_succeeds f (Abort i c) here = refl
local_succeeds f (Trap i c p) here = refl
local_succeeds f (Refuse i j b) here = refl
local_succeeds f (Spill i b) here = refl

-- who moves runs
pub mover_runs : (f g : Flat) (e : Entry) → MovesBy f e g → IsRunning f (hart_of e)
mover_runs f g (Retire i pc w x l s) k = let r = retired_by f g i pc w x l s k in r.2.running
mover_runs f g (Abort i Asked) k = let r = aborted_by f g i Asked k in r.2.running
mover_runs f g (Abort i (Trapped c p)) k = let r = aborted_by f g i (Trapped c p) k in r.2.running
mover_runs f g (Trap i c p) k = k.running
mover_runs f g (Abort i Conflict) k = k.0.running
mover_runs f g (Abort i LogFull) k = let r = aborted_by f g i LogFull k in r.2.running
mover_runs f g (Refuse i j b) k = absurd k
mover_runs f g (Spill i b) k = absurd k

-- the moves of a hart alone, by kind
pub by_kind : (f g : Flat) (P : Entry → Type 0) → ((e : Entry) → IsOwn e → Carries f e g → P e)
    → ((i : ℕ) → MovesBy f (Abort i LogFull) g → P (Abort i LogFull)) → ((i : ℕ) → MovesBy f (Abort i Conflict) g → P (Abort i Conflict))
    → (e : Entry) → MovesBy f e g → P e
by_kind f g P own full way (Retire i pc w x l s) k = own (Retire i pc w x l s) tt k
by_kind f g P own full way (Abort i Asked) k = own (Abort i Asked) tt k
by_kind f g P own full way (Abort i (Trapped c p)) k = own (Abort i (Trapped c p)) tt k
by_kind f g P own full way (Trap i c p) k = own (Trap i c p) tt k
by_kind f g P own full way (Abort i Conflict) k = way i k
by_kind f g P own full way (Abort i LogFull) k = full i k
by_kind f g P own full way (Refuse i j b) k = absurd k
by_kind f g P own full way (Spill i b) k = absurd k
