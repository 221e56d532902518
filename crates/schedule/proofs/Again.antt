-- A run by chance, as a run by a schedule.
use Rattle.std.proofs.Common.{◌++◌, ℕ, zero, suc, List, [], ◌∷◌, length, take, Some, sym, subst}
use Rattle.protocol.specs.Caches.{Geometry}
use Rattle.machine.specs.States.{State}
use Rattle.machine.specs.Turns.{hart_after}
use Rattle.schedule.specs.declared.choices.Choice.{Choice}
use Rattle.schedule.specs.Moments.{Moment}
use Rattle.schedule.specs.Runs.{Follows, FollowsThen, TakesChosen, last_after}

-- what chance chose
chosen_again : (g : Geometry) (cs : List Choice) (n : ℕ) (v : State) (after : ℕ) (ms : List Moment) (w : State) → TakesChosen g cs n v after ms w → Follows g cs (length cs) v after ms w
chosen_again g [] n v after ms w (none, same, over) = (none, same)
chosen_again g (c ∷ cs) zero v after ms w takes = absurd takes
chosen_again g (c ∷ cs) (suc n) v after ms w (step, e, u, rest, chosen, made, takes, is) =
    (Some step, e, u, rest, chosen.is after, made, chosen_again g cs n u (hart_after step after) rest w takes, is)

-- the choices of a list, and what chance chose behind them
pub follows_again : (g : Geometry) (cs chosen : List Choice) (n : ℕ) (v : State) (after : ℕ) (ms : List Moment) (w : State) → FollowsThen (Some chosen) g cs n v after ms w
    → Follows g (take n cs ++ chosen) (length (take n cs ++ chosen)) v after ms w
follows_again g [] chosen zero v after ms w takes = chosen_again g chosen zero v after ms w takes
follows_again g [] chosen (suc n) v after ms w takes = chosen_again g chosen (suc n) v after ms w takes
follows_again g (c ∷ cs) chosen zero v after ms w (none, same, nothing) =
    subst (λ (ds : List Choice). Follows g ds (length ds) v after ms w) (sym nothing) (none, same)
follows_again g (c ∷ cs) chosen (suc n) v after ms w (step, e, u, rest, is_step, made, follows, is) =
    (step, e, u, rest, is_step, made, follows_again g cs chosen n u (last_after step after) rest w follows, is)
