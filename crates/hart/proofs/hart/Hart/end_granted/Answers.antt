use Rattle.std.proofs.Common.{◌∙◌, ap, None, true}
use Rattle.hart.specs.Shown.{shown_hart}
use Rattle.hart.proofs.hart.Hart.end_granted.Goals as goal

pub returns-clause-hart : goal.returns-clause-hart
returns-clause-hart g c = λ output. λ j. record ((ap (shown_hart g.row.SETS output) c.self.view_is ∙ c.receive.ensures.hart output) j) { request = None; fresh = true }
