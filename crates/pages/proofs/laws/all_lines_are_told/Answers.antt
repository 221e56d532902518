use Rattle.network.proofs.OneOrder.{past}
use Rattle.machine.specs.States.{shown}
use Rattle.pages.proofs.Below.{all_below}
use Rattle.pages.proofs.Naming.{kept_where_named}
use Rattle.pages.proofs.laws.all_lines_are_told.Goals as goal

pub returns : goal.returns
returns c = λ g f m i b l belongs inside has. kept_where_named g.sets m b i ((c.lines_agree.ensures g f (shown g.sets m) (past m.flights) belongs (all_below m.flights)).named i b l inside has)
