use Rattle.std.proofs.Common.{◌≡◌, ℕ, sym, ap, ◌∙◌}
use Rattle.std.proofs.lemmas.Result.{IfOk-weaker}
use Rattle.flat.specs.State.{Flat}
use Rattle.outcomes.specs.Standings.{changed}
use Rattle.outcomes.specs.Turns.{after}
use Rattle.outcomes.specs.Pools.{flat_in}
use Rattle.outcomes.proofs.pool.Pool.after_turn.Goals as goal

pub returns-in-Alone-clause-flat : goal.returns-in-Alone-clause-flat
returns-in-Alone-clause-flat c =
    IfOk-weaker c.after_change.result _ _
    (λ x flat s image count. flat s image count ∙ ap (after image (flat_in s image c.args.self.now c.args.state)) (sym c.in-Alone.is))
    c.after_change.ensures.flat

pub returns-in_ok-between-in-Together-clause-flat : goal.returns-in_ok-between-in-Together-clause-flat
returns-in_ok-between-in-Together-clause-flat c =
    IfOk-weaker c.after_change-in-Together-2.result _ _
    (λ x flat s image count.
    flat s image count ∙ ap (λ f. changed image f c.in-Together.second) (c.in_ok-between-in-Together.ensures.flat s image count)
    ∙ ap (after image (flat_in s image c.args.self.now c.args.state)) (sym c.in-Together.is))
    c.after_change-in-Together-2.ensures.flat
