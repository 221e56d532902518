-- How many moments steps have.
use Rattle.std.proofs.Common.{◌≡◌, ◌≤◌, ◌+◌, ◌-◌, ◌++◌, ℕ, zero, suc, inl, inr, List, [], ◌∷◌, length, Option, Some, None, arith, refl, ap, ◌∙◌, length-append, subst, sym}
use Rattle.words.specs.declared.entry.Entry.{Entry}
use Rattle.words.specs.declared.entry.Step.{Step}
use Rattle.protocol.specs.Caches.{Geometry}
use Rattle.machine.specs.States.{State, setting_of}
use Rattle.machine.specs.Turns.{hart_after}
use Rattle.schedule.specs.declared.choices.Choice.{Choice}
use Rattle.schedule.specs.Courses.{Behind, Turns, Chance, Course, course, IsUnbegun}
use Rattle.schedule.specs.Moments.{Moment, moment, moments}
use Rattle.schedule.specs.Runs.{last_after, TakesTurns, TakesChosen, TakesBehind, FollowsThen, Goes, Plays}
use Rattle.schedule.proofs.Making.{leads}
use Rattle.schedule.proofs.Going.{rest_idle, rest_unchosen}

-- a step is one moment, or none
step_at_most : (v w : State) (step : Option Step) (e : Option Entry) → length (moments v step e w) ≤ 1
step_at_most v w None e = omega arith
step_at_most v w (Some step) e = omega arith

joined : (n : ℕ) (first rest ms : List Moment) → length first ≤ 1 → ms ≡ first ++ rest → length rest ≤ n → length ms ≤ suc n
joined n first rest ms one is few =
    let all : length ms ≡ length first + length rest = ap length is ∙ length-append first rest in
    omega (arith, one, all, few)

none_at_most : (n : ℕ) (ms : List Moment) → ms ≡ [] → length ms ≤ n
none_at_most n ms is = let none : length ms ≡ 0 = ap length is in omega (arith, none)

turns_at_most : (g : Geometry) (n : ℕ) (v : State) (after : ℕ) (ms : List Moment) (w : State) → TakesTurns g n v after ms w → length ms ≤ n
turns_at_most g zero v after ms w takes = none_at_most zero ms takes.0
turns_at_most g (suc n) v after ms w (inl none) = none_at_most (suc n) ms none.1
turns_at_most g (suc n) v after ms w (inr (step, e, u, rest, next, made, later, is)) =
    joined n (moment v step e u ∷ []) rest ms (omega arith) is (turns_at_most g n u (hart_after step after) rest w later)

chosen_at_most : (g : Geometry) (cs : List Choice) (n : ℕ) (v : State) (after : ℕ) (ms : List Moment) (w : State) → TakesChosen g cs n v after ms w → length ms ≤ n
chosen_at_most g [] n v after ms w takes = none_at_most n ms takes.0
chosen_at_most g (c ∷ cs) zero v after ms w takes = absurd takes
chosen_at_most g (c ∷ cs) (suc n) v after ms w (step, e, u, rest, chosen, made, later, is) =
    joined n (moment v step e u ∷ []) rest ms (omega arith) is (chosen_at_most g cs n u (hart_after step after) rest w later)

behind_at_most : (r : Option (List Choice)) (g : Geometry) (n : ℕ) (v : State) (after : ℕ) (ms : List Moment) (w : State) → TakesBehind r g n v after ms w → length ms ≤ n
behind_at_most None g n v after ms w takes = turns_at_most g n v after ms w takes
behind_at_most (Some cs) g n v after ms w takes = chosen_at_most g cs n v after ms w takes

follows_at_most : (r : Option (List Choice)) (g : Geometry) (choices : List Choice) (n : ℕ) (v : State) (after : ℕ) (ms : List Moment) (w : State) → FollowsThen r g choices n v after ms w → length ms ≤ n
follows_at_most r g [] n v after ms w follows = behind_at_most r g n v after ms w follows
follows_at_most r g (c ∷ cs) zero v after ms w follows = none_at_most zero ms follows.0
follows_at_most r g (c ∷ cs) (suc n) v after ms w (step, e, u, rest, chosen, made, later, is) =
    joined n (moments v step e u) rest ms (step_at_most v u step e) is (follows_at_most r g cs n u (last_after step after) rest w later)

-- so many steps have no more moments
pub steps_at_most : (g : Geometry) (c : Course) (n : ℕ) (v : State) (ms : List Moment) (w : State) → Plays g c n v ms w → length ms ≤ n
steps_at_most g c n v ms w (goes, carry) = by_sort c.behind goes
  where
    start : ℕ
    start = (setting_of v).count - 1

    by_sort : (b : Behind) → Goes b g c.choices n v start ms w → length ms ≤ n
    by_sort Turns follows = follows_at_most None g c.choices n v start ms w follows
    by_sort (Chance None) (cs, follows) = follows_at_most (Some cs) g c.choices n v start ms w follows
    by_sort (Chance (Some cs)) follows = follows_at_most (Some cs) g c.choices n v start ms w follows

-- no step
pub none_played : (g : Geometry) (choices : List Choice) (b : Behind) (v : State) → IsUnbegun b → Plays g (course choices b) 0 v [] v
none_played g choices Turns v unbegun = (rest_idle g choices v ((setting_of v).count - 1), leads g v v [] ([], (refl, refl)))
none_played g choices (Chance None) v unbegun = (([], rest_unchosen g choices v ((setting_of v).count - 1)), leads g v v [] ([], (refl, refl)))
none_played g choices (Chance (Some cs)) v unbegun = (
  subst (λ (ds : List Choice). FollowsThen (Some ds) g choices 0 v ((setting_of v).count - 1) [] v) (sym unbegun) (rest_unchosen g choices v ((setting_of v).count - 1)),
  leads g v v [] ([], (refl, refl)),
)
