-- What a hart's word does once it is known whether a conditional store succeeds, and what the entry shows of that.
use Rattle.std.proofs.Common.{◌≡◌, ℕ, Bool, true, false, Option, Some, None, Result, Ok, Err, refl, ap, ◌∙◌}
use Rattle.std.specs.Prelude.{is_some, is_none, not, ◌&&◌, IsOkAnd, IsSome}
use Rattle.std.specs.Option.{option_map}
use Rattle.words.specs.declared.cause.Cause.{Cause}
use Rattle.words.specs.declared.entry.Access.{Access}
use Rattle.table.specs.declared.effect.Effect.{Effect}
use Rattle.table.specs.declared.effect.Act.{Act}
use Rattle.table.specs.declared.effect.Act.TheVariants as act
use Rattle.table.specs.Effects.{resolved, resolved_by}
use Rattle.flat.specs.State.{Flat, flat_view, IsAllowed}
use Rattle.flat.specs.Causes.{next_of}
use Rattle.flat.specs.Effects.{store_by, retire_of}
use Rattle.flat.specs.Steps.{is_abort}
use Rattle.flat.proofs.LoadsOrStores.{IsUseful}
use Rattle.isolation.specs.Moves.{is_local}
use Rattle.outcomes.specs.Turns.{is_conditional, is_next_conditional, is_failure}

-- success and failure are no aborts
pub abort_same : (b : Bool) (e : Effect) → is_abort (resolved b e).act ≡ is_abort e.act
abort_same b e = by e.act b where
  by : (a : Act) (b : Bool) → is_abort (resolved_by b (record e { act = a }) a).act ≡ is_abort a
  by (act.Conditional rd m) true = refl
  by (act.Conditional rd m) false = refl
  by a b = refl

-- what is a conditional store is no abort
pub no_abort : (e : Effect) → is_conditional e.act ≡ true → is_abort e.act ≡ false
no_abort e is = by e.act is where
  by : (a : Act) → is_conditional a ≡ true → is_abort a ≡ false
  by act.Abort is = cc
  by a is = refl

-- it may always fail
pub failure_allowed : (f : Flat) (i : ℕ) (e : Effect) → is_conditional e.act ≡ true → IsAllowed f i (resolved false e).act
failure_allowed f i e is = by e.act is where
  by : (a : Act) → is_conditional a ≡ true → IsAllowed f i (resolved_by false (record e { act = a }) a).act
  by (act.Memory m) is = absurd (cc)
  by a is = tt

-- an effect is what it is, or the entry shows whether its store succeeded
pub shown_so : (o : Option Access) (e : Effect) → resolved (not (is_conditional e.act && is_none o)) e ≡ resolved (is_some o) e
shown_so o e = by e.act o where
  by : (a : Act) (o : Option Access) → resolved_by (not (is_conditional a && is_none o)) (record e { act = a }) a ≡ resolved_by (is_some o) (record e { act = a }) a
  by (act.Conditional rd m) None = refl
  by (act.Conditional rd m) (Some s) = refl
  by a o = refl

-- what is made of a value is there
mapped : {A B C : Type 0} (o : Option A) (g : A → B) (h : B → C) → IsSome o → is_some (option_map h (option_map g o)) ≡ true
mapped (Some x) g h some = refl
mapped None g h some = cc

not_none : {A : Type 0} (o : Option A) → is_some o ≡ true → is_none o ≡ false
not_none (Some x) some = refl
not_none None some = cc

-- a store that succeeded is in the entry
pub done_shows : (view : ℕ → ℕ) (b : Bool) (e : Effect) → IsUseful e.act → resolved (is_some (store_by view (resolved b e).act)) e ≡ resolved b e
done_shows view b e useful = by e.act b useful where
  by : (a : Act) (b : Bool) → IsUseful a
      → resolved_by (is_some (store_by view (resolved_by b (record e { act = a }) a).act)) (record e { act = a }) a ≡ resolved_by b (record e { act = a }) a
  by (act.Conditional rd m) true some = ap (λ x. resolved_by x (record e { act = act.Conditional rd m }) (act.Conditional rd m)) (mapped m.store _ _ some)
  by (act.Conditional rd m) false some = refl
  by a b useful = refl

-- and one that failed is a failure
tells_by : (view : ℕ → ℕ) (b : Bool) (e : Effect) → IsUseful e.act → (b ≡ false → is_conditional e.act ≡ true)
    → (is_conditional e.act && is_none (store_by view (resolved b e).act)) ≡ not b
tells_by view b e useful fails = by e.act b useful fails where
  by : (a : Act) (b : Bool) → IsUseful a → (b ≡ false → is_conditional a ≡ true) → (is_conditional a && is_none (store_by view (resolved_by b (record e { act = a }) a).act)) ≡ not b
  by (act.Conditional rd m) true some fails = not_none _ (mapped m.store _ _ some)
  by (act.Conditional rd m) false some fails = refl
  by a true useful fails = refl
  by a false useful fails = fails refl

pub tells_so : (f : Flat) (i w : ℕ) (b : Bool) (e : Effect) → next_of f.setting (f.hart i) ≡ Ok e → IsUseful e.act → (b ≡ false → is_conditional e.act ≡ true)
    → is_failure f (retire_of (flat_view f i) i (f.hart i) w (resolved b e)) ≡ not b
tells_so f i w b e next useful fails =
    ap (λ n. is_next_conditional n && is_none (store_by (flat_view f i) (resolved b e).act)) next ∙ tells_by (flat_view f i) b e useful fails

-- a word that nobody else sees is no conditional store
local_is_none : (r : Result Effect Cause) → IsOkAnd r (λ e. is_local e.act ≡ true) → is_next_conditional r ≡ false
local_is_none (Err c) here = absurd here
local_is_none (Ok e) here = by e.act here where
  by : (a : Act) → is_local a ≡ true → is_conditional a ≡ false
  by (act.Conditional rd m) here = cc
  by a here = refl

pub local_tells : (r : Result Effect Cause) (b : Bool) → IsOkAnd r (λ e. is_local e.act ≡ true) → (is_next_conditional r && b) ≡ false
local_tells r b here = ap (λ x. x && b) (local_is_none r here)
