use Rattle.isolation.proofs.Rooms.MachineRooms.{lines_fit_of}
use Rattle.isolation.proofs.facts.lines_fit.Goals as goal

pub returns : goal.returns
returns c = lines_fit_of
