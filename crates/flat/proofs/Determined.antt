-- An entry, and so a list of entries, leads to one flat state.
use Rattle.std.proofs.Common.{◌≡◌, ℕ, Option, Some, None, Result, Ok, Err, List, [], ◌∷◌, sym, ◌∙◌, subst}
use Rattle.std.specs.Prelude.{is_some, IsOkAnd, IsSomeAnd}
use Rattle.words.specs.declared.entry.Entry.{Entry}
use Rattle.words.specs.declared.entry.Entry.TheVariants.{Retire, Abort, Trap, Refuse, Spill}
use Rattle.words.specs.declared.cause.AbortCause.{AbortCause}
use Rattle.words.specs.declared.cause.Cause.{Cause}
use Rattle.table.specs.declared.effect.Effect.{Effect}
use Rattle.flat.specs.State.{Flat, Tx}
use Rattle.flat.specs.Causes.{done_next}
use Rattle.flat.specs.Steps.{Carries, Retires, Aborts, IsRun}

-- what is retired
one_retired : (f g h : Flat) (i w : ℕ) (e : Entry) (r : Result Effect Cause) → IsOkAnd r (λ d. Retires f i w d e g) → IsOkAnd r (λ d. Retires f i w d e h) → g ≡ h
one_retired f g h i w e (Ok d) a b = a.after ∙ sym b.after
one_retired f g h i w e (Err c) a b = absurd a

-- what is rolled back
one_aborted : (f g h : Flat) (i : ℕ) (c : AbortCause) (t : Option Tx) → IsSomeAnd t (λ t. Aborts f i c t g) → IsSomeAnd t (λ t. Aborts f i c t h) → g ≡ h
one_aborted f g h i c (Some t) a b = a.after ∙ sym b.after
one_aborted f g h i c None a b = absurd a

-- one entry
pub one_next : (f g h : Flat) (e : Entry) → Carries f e g → Carries f e h → g ≡ h
one_next f g h (Retire i pc w x l s) a b = one_retired f g h i w (Retire i pc w x l s) (done_next (is_some s) f.setting (f.hart i)) a b
one_next f g h (Abort i c) a b = one_aborted f g h i c (f.hart i).tx a b
one_next f g h (Trap i c p) a b = a.after ∙ sym b.after
one_next f g h (Refuse i j b) x y = x ∙ sym y
one_next f g h (Spill i b) x y = x ∙ sym y

-- a list of entries
pub one_last : (f g h : Flat) (es : List Entry) → IsRun f es g → IsRun f es h → g ≡ h
one_last f g h [] a b = a ∙ sym b
one_last f g h (e ∷ es) a b = one_last a.0 g h es a.2 (subst (λ m. IsRun m es h) (sym (one_next f a.0 b.0 e a.1 b.1)) b.2)
