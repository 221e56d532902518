-- What follows for the harts from an entry that carries one flat state to another.
use Rattle.std.proofs.Common.{◌≡◌, ◌≢◌, ℕ, Option, Some, None, Result, Ok, Err, refl, ap, ◌∙◌}
use Rattle.std.specs.Prelude.{is_some, IsOkAnd, IsSomeAnd}
use Rattle.words.specs.declared.entry.Access.{Access}
use Rattle.words.specs.declared.entry.Entry.{Entry}
use Rattle.words.specs.declared.entry.Entry.TheVariants.{Retire, Abort, Trap, Refuse, Spill}
use Rattle.words.specs.declared.cause.AbortCause.{AbortCause}
use Rattle.table.specs.declared.effect.Effect.{Effect}
use Rattle.flat.specs.State.{Flat, Tx, flat_view}
use Rattle.flat.specs.Causes.{done_next}
use Rattle.flat.specs.Effects.{hart_after}
use Rattle.flat.specs.Steps.{Carries, Retires, Aborts, hart_of, retired, aborted, hart_aborted}
use Rattle.flat.proofs.Maps.{put_there, put_elsewhere}

-- the value that a result has, with what holds of it
ok_with : {A E : Type 0} (r : Result A E) (P : A → Type 0) → IsOkAnd r P → (x : A) × (r ≡ Ok x) × P x
ok_with (Ok x) P p = (x, refl, p)
ok_with (Err c) P p = absurd p

-- and the value that an option has
some_with : {A : Type 0} (o : Option A) (P : A → Type 0) → IsSomeAnd o P → (x : A) × (o ≡ Some x) × P x
some_with (Some x) P p = (x, refl, p)
some_with None P p = absurd p

-- what a hart retires is what it does next, and a conditional store has succeeded if the entry has a store
pub retired_by : (f g : Flat) (i pc w : ℕ) (x : Option (ℕ × ℕ)) (l s : Option Access) → Carries f (Retire i pc w x l s) g
    → (d : Effect) × (done_next (is_some s) f.setting (f.hart i) ≡ Ok d) × Retires f i w d (Retire i pc w x l s) g
retired_by f g i pc w x l s k = ok_with (done_next (is_some s) f.setting (f.hart i)) (λ d. Retires f i w d (Retire i pc w x l s) g) k

-- what is rolled back is the hart's transaction
pub aborted_by : (f g : Flat) (i : ℕ) (c : AbortCause) → Carries f (Abort i c) g → (t : Tx) × ((f.hart i).tx ≡ Some t) × Aborts f i c t g
aborted_by f g i c k = some_with (f.hart i).tx (λ t. Aborts f i c t g) k

-- the hart after it retired
pub hart_retired : (f g : Flat) (i : ℕ) (d : Effect) → g ≡ retired f i d → g.hart i ≡ hart_after (flat_view f i) (f.hart i) d
hart_retired f g i d e = ap (λ (m : Flat). m.hart i) e ∙ put_there i (hart_after (flat_view f i) (f.hart i) d) f.hart

-- the hart after its transaction was rolled back
pub hart_back : (f g : Flat) (i : ℕ) (c : AbortCause) (t : Tx) → g ≡ aborted f i c t → g.hart i ≡ hart_aborted (f.hart i) c t
hart_back f g i c t e = ap (λ (m : Flat). m.hart i) e ∙ put_there i (hart_aborted (f.hart i) c t) f.hart

-- an entry changes no hart but its own
pub others_stay : (f g : Flat) (e : Entry) → Carries f e g → (j : ℕ) → j ≢ hart_of e → g.hart j ≡ f.hart j
others_stay f g (Retire i pc w x l s) k j ne = let r = retired_by f g i pc w x l s k in ap (λ (m : Flat). m.hart j) r.2.after ∙ put_elsewhere i j _ f.hart ne
others_stay f g (Abort i c) k j ne = let r = aborted_by f g i c k in ap (λ (m : Flat). m.hart j) r.2.after ∙ put_elsewhere i j _ f.hart ne
others_stay f g (Trap i c p) k j ne = ap (λ (m : Flat). m.hart j) k.after ∙ put_elsewhere i j _ f.hart ne
others_stay f g (Refuse i k b) e j ne = ap (λ (m : Flat). m.hart j) e
others_stay f g (Spill i b) e j ne = ap (λ (m : Flat). m.hart j) e

-- an entry leaves the setting
pub setting_stays : (f g : Flat) (e : Entry) → Carries f e g → g.setting ≡ f.setting
setting_stays f g (Retire i pc w x l s) k = let r = retired_by f g i pc w x l s k in ap (λ (m : Flat). m.setting) r.2.after
setting_stays f g (Abort i c) k = let r = aborted_by f g i c k in ap (λ (m : Flat). m.setting) r.2.after
setting_stays f g (Trap i c p) k = ap (λ (m : Flat). m.setting) k.after
setting_stays f g (Refuse i k b) e = ap (λ (m : Flat). m.setting) e
setting_stays f g (Spill i b) e = ap (λ (m : Flat). m.setting) e
