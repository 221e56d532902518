-- Turns that a machine takes, with their moments.
use Rattle.std.proofs.Common.{◌≡◌, ◌∙◌, ◌++◌, ℕ, suc, List, [], ◌∷◌, length, Option, Some, refl, ap, subst₂}
use Rattle.words.specs.declared.entry.Entry.{Entry}
use Rattle.words.specs.declared.entry.Step.{Step}
use Rattle.protocol.specs.Caches.{Geometry}
use Rattle.machine.specs.Making.{MakesStep}
use Rattle.machine.specs.States.{State, shown}
use Rattle.machine.specs.Turns.{hart_after, IsNextTurn, TakesAll, TakesMany}
use Rattle.schedule.specs.Moments.{Moment, moment}
use Rattle.schedule.specs.Runs.{TookTurns}

took_all : (g : Geometry) (v w : State) (after last : ℕ) (es : List (Option Entry)) → TakesAll g v after es w last → (ms : List Moment) × TookTurns g v after ms w last × (length es ≡ length ms)
took_all g v w after last [] (same, is) = ([], (same, is), refl)
took_all g v w after last (e ∷ es) (step, u, turn, later) =
    let on = took_all g u w (hart_after step after) last es later in
    (moment v step e u ∷ on.0, (step, e, u, turn.next, turn.made, refl, on.1), ap suc on.2)

pub took_many : (g : Geometry) (v w : State) (after number last : ℕ) → TakesMany g v after number w last → (ms : List Moment) × TookTurns g v after ms w last × (number ≡ length ms)
took_many g v w after number last many =
    let all = took_all g v w after last many.entries many.takes in
    (all.0, all.1, many.turns ∙ all.2)

-- one turn, and turns behind others
pub turn_one : (g : Geometry) (v w : State) (after : ℕ) (step : Step) (e : Option Entry) → IsNextTurn (shown g.sets v) v.flights after (Some step) → MakesStep g v step e w
    → TookTurns g v after (moment v step e w ∷ []) w (hart_after step after)
turn_one g v w after step e next made = (step, e, w, next, made, refl, (refl, refl))

pub turns_both : (g : Geometry) (v u w : State) (a b c : ℕ) (ms ns : List Moment) → TookTurns g v a ms u b → TookTurns g u b ns w c → TookTurns g v a (ms ++ ns) w c
turns_both g v u w a b c [] ns (same, is) later = subst₂ (λ (m : State) (h : ℕ). TookTurns g m h ns w c) same is later
turns_both g v u w a b c (m ∷ ms) ns (step, e, x, next, made, is, rest) later = (step, e, x, next, made, is, turns_both g x u w (hart_after step a) b c ms ns rest later)
