-- What a change makes of a flat state.
use Rattle.std.proofs.Common.{◌≡◌, ◌≢◌, ℕ, Bool, true, false, Option, Some, None, Result, Ok, List, [], ◌∷◌, length, refl, sym, ap, subst, ◌∙◌}
use Rattle.std.specs.Prelude.{is_some, not, IsOkAnd, IsSomeAnd, IfSome, IfNone}
use Rattle.words.specs.declared.cause.Cause.{Cause}
use Rattle.words.specs.declared.cause.AbortCause.{AbortCause}
use Rattle.words.specs.declared.cause.Status.TheVariants.{Stopped}
use Rattle.words.specs.declared.entry.Entry.{Entry}
use Rattle.words.specs.declared.entry.Entry.TheVariants.{Abort}
use Rattle.table.specs.declared.effect.Effect.{Effect}
use Rattle.table.specs.Effects.{resolved}
use Rattle.flat.specs.State.{Flat, FlatHart, Tx, flat_view, seen}
use Rattle.flat.specs.Bytes.{put_at}
use Rattle.flat.proofs.Maps.{put_elsewhere}
use Rattle.flat.specs.Causes.{next_of, done_next}
use Rattle.flat.specs.Effects.{store_by, retire_of, hart_after, mem_by}
use Rattle.flat.specs.Steps.{Carries, IsRunning, Retires, Aborts, MayAbort, retired, aborted, stopped, hart_aborted}
use Rattle.flat.proofs.LoadsOrStores.{IsUseful, next_useful}
use Rattle.isolation.proofs.Words.NextWord.{next_done}
use Rattle.outcomes.specs.declared.hart.Hart.{Hart}
use Rattle.outcomes.specs.declared.memory.Memory.{Memory}
use Rattle.outcomes.specs.declared.change.Change.{Change}
use Rattle.outcomes.specs.declared.change.Turn.{Turn}
use Rattle.outcomes.specs.Harts.{hart_of, mem_at, mem_after}
use Rattle.outcomes.specs.Standings.{changed}
use Rattle.outcomes.specs.Turns.{entries_of, after, IsOf, IsBack, IsOwnMove, is_conditional}
use Rattle.outcomes.proofs.Resolved.{done_shows, tells_so}

-- what is said of an option's value is said of this one
pub of_some : {A : Type 0} (o : Option A) (x : A) (P : A → Type 0) → o ≡ Some x → IfSome o P → P x
of_some o x P is p = subst (λ o. IfSome o P) is p

pub at_some : {A : Type 0} (o : Option A) (x : A) (P : A → Type 0) → o ≡ Some x → P x → IsSomeAnd o P
at_some o x P is p = subst (λ o. IsSomeAnd o P) (sym is) p

pub some_weaker : {A : Type 0} (o : Option A) (P Q : A → Type 0) → ((x : A) → P x → Q x) → IsSomeAnd o P → IsSomeAnd o Q
some_weaker (Some x) P Q f p = f x p
some_weaker None P Q f p = p

module _ (image : List ℕ) (f : Flat) (i : ℕ) (h : FlatHart) (at : f.hart i ≡ h) where
  -- a hart whose transaction was rolled back
  pub rolled_back : (new : Hart) (cause : AbortCause) (t : Tx) → h.tx ≡ Some t → hart_of (length image) new ≡ hart_aborted h cause t
      → IsBack image f i cause (record { id = i; hart = new; memory = None })
  rolled_back new cause t is back = record {
    id = refl;
    memory = refl;
    hart = at_some (f.hart i).tx t _ (ap (λ (x : FlatHart). x.tx) at ∙ is) (back ∙ ap (λ x. hart_aborted x cause t) (sym at));
  }

  -- a hart that was stopped
  pub stopped_there : (new : Hart) (c : Cause) (p : ℕ) → hart_of (length image) new ≡ record h { status = Stopped c p }
      → changed image f (record { id = i; hart = new; memory = None }) ≡ stopped f i c p
  stopped_there new c p now = λ k. record f { hart = λ j. put_at i ((now ∙ ap (λ (x : FlatHart). record x { status = Stopped c p }) (sym at)) k) f.hart j }

  -- a hart that retired an effect, from copies of it and of memory
  module _ (copy new : Hart) (same kept : Memory) (e : Effect)
      (hart : hart_of (length image) copy ≡ h) (mem : (a : ℕ) → mem_at image same a ≡ f.mem a) where
    seen_by : FlatHart → (ℕ → ℕ) → ℕ → ℕ
    seen_by x m a = seen x.tx m a

    pub went_on : hart_of (length image) new ≡ hart_after (λ a. seen (hart_of (length image) copy).tx (mem_at image same) a) (hart_of (length image) copy) e
        → ((a : ℕ) → mem_at image kept a ≡ mem_by (λ a. seen (hart_of (length image) copy).tx (mem_at image same) a) (hart_of (length image) copy).tx (mem_at image same) e.act a)
        → changed image f (record { id = i; hart = new; memory = Some kept }) ≡ retired f i e
    went_on becomes lays =
        let X : hart_of (length image) copy ≡ f.hart i = hart ∙ sym at in
        let H : hart_of (length image) new ≡ hart_after (flat_view f i) (f.hart i) e = becomes ∙ (λ k. hart_after (λ a. seen (X k).tx (λ a. mem a k) a) (X k) e) in
        let M : (a : ℕ) → mem_at image kept a ≡ mem_by (flat_view f i) (f.hart i).tx f.mem e.act a = λ a. lays a ∙ (λ k. mem_by (λ a. seen (X k).tx (λ a. mem a k) a) (X k).tx (λ a. mem a k) e.act a) in
        λ k. record f { mem = λ a. M a k; hart = λ j. put_at i (H k) f.hart j }

    pub shows : (word : ℕ) (entry : Entry) → entry ≡ retire_of (λ a. seen (hart_of (length image) copy).tx (mem_at image same) a) i (hart_of (length image) copy) word e
        → entry ≡ retire_of (flat_view f i) i (f.hart i) word e
    shows word entry is =
        let X : hart_of (length image) copy ≡ f.hart i = hart ∙ sym at in
        is ∙ (λ k. retire_of (λ a. seen (X k).tx (λ a. mem a k) a) i (X k) word e)

-- a transaction is rolled back
pub aborts_so : (f g : Flat) (i : ℕ) (cause : AbortCause) → IsRunning f i → ((t : Tx) → MayAbort cause (f.hart i) t (next_of f.setting (f.hart i)))
    → IsSomeAnd (f.hart i).tx (λ t. g ≡ aborted f i cause t) → Carries f (Abort i cause) g
aborts_so f g i cause runs due back = some_weaker (f.hart i).tx (λ t. g ≡ aborted f i cause t) (λ t. Aborts f i cause t g) (λ t e. record { running = runs; due = due t; after = e }) back

-- a word is retired, and a conditional store succeeds or fails
pub retires_so : (image : List ℕ) (f : Flat) (i w : ℕ) (b : Bool) (does : Effect) (e : Entry) (t : Turn) → next_of f.setting (f.hart i) ≡ Ok does
    → (b ≡ false → is_conditional does.act ≡ true)
    → Retires f i w (resolved b does) e (after image f t) → IsOf f.setting.count t → entries_of t ≡ e ∷ [] → IsOwnMove image f i (not b) t
retires_so image f i w b does e t next fails r of shown =
    let done = resolved b does in
    let all = retire_of (flat_view f i) i (f.hart i) w done in
    let g = after image f t in
    let P = λ (n : Result Effect Cause). IsOkAnd n (λ d. Retires f i w d all g) in
    let q : Retires f i w done all g = record { running = r.running; fetched = r.fetched; no_abort = r.no_abort; allowed = r.allowed; entry = refl; after = r.after } in
    let useful : IsUseful does.act = next_useful f.setting (f.hart i) does next in
    let stores = is_some (store_by (flat_view f i) done.act) in
    let is : done_next stores f.setting (f.hart i) ≡ Ok done = next_done f.setting (f.hart i) does stores next ∙ ap (λ d. Ok d) (done_shows (flat_view f i) b does useful) in
    record {
      entry = all;
      shown = shown ∙ ap (λ x. x ∷ []) r.entry;
      own = tt;
      tells = tells_so f i w b does next useful fails;
      hart = refl;
      of = of;
      carries = subst P (sym is) q;
    }

-- a change that rolled a hart back rolls it back in each state where it stands so
pub back_there : (image : List ℕ) (f e : Flat) (i : ℕ) (cause : AbortCause) (c : Change) → IsBack image f i cause c → e.hart i ≡ f.hart i
    → IsSomeAnd (e.hart i).tx (λ t. changed image e c ≡ aborted e i cause t)
back_there image f e i cause c back same =
    let P = λ (h : FlatHart) (o : Option Tx). IsSomeAnd o (λ t. hart_of (length image) c.hart ≡ hart_aborted h cause t) in
    let here : IsSomeAnd (e.hart i).tx (λ t. hart_of (length image) c.hart ≡ hart_aborted (e.hart i) cause t) = subst (λ h. P h h.tx) (sym same) back.hart in
    some_weaker (e.hart i).tx _ (λ t. changed image e c ≡ aborted e i cause t)
    (λ t is. λ k. record e { mem = λ a. mem_after image (back.memory k) e.mem a; hart = λ j. put_at (back.id k) (is k) e.hart j })
    here

pub of_none : {A : Type 0} (o : Option A) (P : Type 0) → o ≡ None → IfNone o P → P
of_none o P is p = subst (λ o. IfNone o P) is p

-- a change leaves the other harts as they are
pub changed_elsewhere : (image : List ℕ) (f : Flat) (c : Change) (j : ℕ) → j ≢ c.id → (changed image f c).hart j ≡ f.hart j
changed_elsewhere image f c j ne = put_elsewhere c.id j (hart_of (length image) c.hart) f.hart ne
