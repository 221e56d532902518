use Rattle.std.proofs.Common.{refl, sym, ◌∙◌}
use Rattle.machine.proofs.machine.Machine.owed.Goals as goal

pub returns-then-fresh : goal.returns-then-fresh
returns-then-fresh g c = (c.in_default.ensures.none, sym c.fresh.ensures ∙ c.if-fresh.true, refl)

pub returns : goal.returns
returns g c = (c.in_default.ensures.none, sym c.fresh.ensures ∙ c.if-fresh.false)
