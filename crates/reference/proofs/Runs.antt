-- Steps one after another, and the run of the flat machine that their entries are.
use Rattle.std.proofs.Common.{◌≡◌, ℕ, Option, Some, None, List, [], ◌∷◌, ◌++◌, take, refl, sym, ap, subst, ◌∙◌, append_assoc}
use Rattle.std.specs.Prelude.{option_to_list}
use Rattle.words.specs.declared.entry.Entry.{Entry}
use Rattle.words.specs.declared.entry.Step.{Step}
use Rattle.flat.specs.State.{Flat}
use Rattle.flat.specs.Steps.{CarriesSome, IsRun}
use Rattle.reference.specs.declared.machine.Machine.{Machine}
use Rattle.reference.specs.Machines.{flat_of, Makes, StepsTo, RunsTo, RefinesAll}

-- one step alone
pub one_step : (f g : Flat) (olds news : List Entry) (s : Step) (e : Option Entry) → StepsTo f s e g → news ≡ olds ++ option_to_list e → RunsTo f olds (s ∷ []) g news
one_step f g olds news s e step new =
    (option_to_list e, new, (e, g, [], step, sym (append_nil (option_to_list e)), (refl, refl)))
  where
    append_nil : (es : List Entry) → es ++ [] ≡ es
    append_nil [] = refl
    append_nil (e ∷ es) = ap (λ es. e ∷ es) (append_nil es)

-- some steps, and then more
pub makes_more : (f g h : Flat) (ss ts : List Step) (es ds : List Entry) → Makes f ss es g → Makes g ts ds h → Makes f (ss ++ ts) (es ++ ds) h
makes_more f g h [] ts es ds a b =
    let M = λ (e : List Entry) (x : Flat). Makes x ts (e ++ ds) h in
    subst (λ e. M e f) (sym a.0) (subst (λ x. M [] x) a.1 b)
makes_more f g h (s ∷ ss) ts es ds a b =
    (a.0, a.1, a.2 ++ ds, a.3, ap (λ e. e ++ ds) a.4 ∙ append_assoc (option_to_list a.0) a.2 ds, makes_more a.1 g h ss ts a.2 ds a.5 b)

pub runs_more : (f g h : Flat) (olds mids news : List Entry) (ss ts : List Step) → RunsTo f olds ss g mids → RunsTo g mids ts h news → RunsTo f olds (ss ++ ts) h news
runs_more f g h olds mids news ss ts a b =
    (a.0 ++ b.0, b.1 ∙ ap (λ es. es ++ b.0) a.1 ∙ append_assoc olds a.0 b.0, makes_more f g h ss ts a.0 b.0 a.2 b.2)

-- an entry, if there is one, before a run
run_after : (f h g : Flat) (e : Option Entry) (es : List Entry) → CarriesSome f e h → IsRun h es g → IsRun f (option_to_list e ++ es) g
run_after f h g None es c r = subst (λ x. IsRun x es g) c r
run_after f h g (Some e) es c r = (h, c, r)

-- the entries of steps are a run
makes_run : (f g : Flat) (ss : List Step) (es : List Entry) → Makes f ss es g → IsRun f es g
makes_run f g [] es m = subst (λ e. IsRun f e g) (sym m.0) m.1
makes_run f g (s ∷ ss) es m = subst (λ e. IsRun f e g) (sym m.4) (run_after f m.1 g m.0 m.2 m.3.1 (makes_run m.1 g ss m.2 m.5))

pub refines_all : (old new : Machine) (olds news : List Entry) (ss : List Step) → RunsTo (flat_of old) olds ss (flat_of new) news → RefinesAll old olds new news
refines_all old new olds news ss r f b =
    (flat_of new, r.0, r.1, subst (λ x. IsRun x r.0 (flat_of new)) (sym b) (makes_run (flat_of old) (flat_of new) ss r.0 r.2), refl)

-- a list of steps cut at one more
pub taken_more : (f g h : Flat) (olds mids news : List Entry) (ss : List Step) (k : ℕ) (s : Step) (more : List Step) → more ≡ take k ss ++ s ∷ []
    → RunsTo f olds (take k ss) g mids → RunsTo g mids (s ∷ []) h news → RunsTo f olds more h news
taken_more f g h olds mids news ss k s more e a b = subst (λ ts. RunsTo f olds ts h news) (sym e) (runs_more f g h olds mids news (take k ss) (s ∷ []) a b)

-- what changed nothing is no step
pub unmoved_run : (f g h : Flat) (olds mids news : List Entry) (ss : List Step) → RunsTo f olds ss g mids → h ≡ g → news ≡ mids → RunsTo f olds ss h news
unmoved_run f g h olds mids news ss r same more =
    let R = λ (x : Flat) (es : List Entry). RunsTo f olds ss x es in
    subst (λ x. R x news) (sym same) (subst (λ es. R g es) (sym more) r)
