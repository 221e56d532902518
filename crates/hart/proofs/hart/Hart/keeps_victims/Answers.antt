use Rattle.hart.proofs.Victims.{victim-may}
use Rattle.hart.proofs.hart.Hart.keeps_victims.Goals as goal

pub returns : goal.returns
returns g c = λ b. rw (← c.self.view_is) (victim-may g.row.SETS g.row.WAYS c.self.inside.cache c.keeps.ensures b)
