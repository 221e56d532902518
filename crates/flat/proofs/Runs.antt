-- Runs, put together and taken apart.
use Rattle.std.proofs.Common.{◌≡◌, List, [], ◌∷◌, ◌++◌, refl, sym, ap, ◌∙◌, subst}
use Rattle.words.specs.declared.entry.Entry.{Entry}
use Rattle.flat.specs.State.{Flat}
use Rattle.flat.specs.Steps.{Carries, IsRun}
use Rattle.flat.proofs.Entries.{setting_stays}

-- a run goes on by a second one
pub run_then : (f g h : Flat) (es fs : List Entry) → IsRun f es g → IsRun g fs h → IsRun f (es ++ fs) h
run_then f g h [] fs a b = subst (λ m. IsRun m fs h) a b
run_then f g h (e ∷ es) fs a b = (a.0, a.1, run_then a.0 g h es fs a.2 b)

-- a run goes on by one entry
pub run_more : (f g h : Flat) (es : List Entry) (e : Entry) → IsRun f es g → Carries g e h → IsRun f (es ++ e ∷ []) h
run_more f g h es e a k = run_then f g h es (e ∷ []) a (h, k, refl)

-- a run of two lists comes past a state between them
pub run_between : (f h : Flat) (es fs : List Entry) → IsRun f (es ++ fs) h → (g : Flat) × IsRun f es g × IsRun g fs h
run_between f h [] fs a = (f, refl, a)
run_between f h (e ∷ es) fs a = let b = run_between a.0 h es fs a.2 in (b.0, (a.0, a.1, b.1), b.2)

-- and a state between two runs makes them one
pub run_joined : (f h : Flat) (es fs : List Entry) → ((g : Flat) × IsRun f es g × IsRun g fs h) → IsRun f (es ++ fs) h
run_joined f h es fs b = run_then f b.0 h es fs b.1 b.2

-- a run leaves the setting
pub run_setting : (f g : Flat) (es : List Entry) → IsRun f es g → g.setting ≡ f.setting
run_setting f g [] a = ap (λ (m : Flat). m.setting) a
run_setting f g (e ∷ es) a = run_setting a.0 g es a.2 ∙ setting_stays f a.0 e a.1

-- what each entry keeps, a run keeps
pub run_keeps : (P : Flat → Type 0) → ((f g : Flat) (e : Entry) → Carries f e g → P f → P g) → (f g : Flat) (es : List Entry) → IsRun f es g → P f → P g
run_keeps P keeps f g [] a p = subst P (sym a) p
run_keeps P keeps f g (e ∷ es) a p = run_keeps P keeps a.0 g es a.2 (keeps f a.0 e a.1 p)
