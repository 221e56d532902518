use Rattle.isolation.proofs.Rooms.VictimRooms.{makes_room}
use Rattle.isolation.proofs.facts.victims_make_room.Goals as goal

pub returns : goal.returns
returns c = λ g f v w i b kind e belongs lacks none step. makes_room g v w i b e f kind belongs lacks none step
