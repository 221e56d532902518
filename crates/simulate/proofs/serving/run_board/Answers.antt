use Rattle.std.proofs.Common.{◌*◌, ◌≤◌, arith}
use native.Mathlib.Nat.{mul-le-mul_left}
use Rattle.simulate.proofs.ThreadedRuns.{not_same}
use Rattle.simulate.proofs.serving.run_board.Goals as goal

pub returns : goal.returns
returns g c = not_same _ c.if_of.result c.if_of.ensures.end

-- a machine has a size that fits: it has no more sets than lines
pub serve-requires-room-D-Desk-2 : goal.serve-requires-room-D-Desk-2
serve-requires-room-D-Desk-2 g c κs within = let few : g.row.SETS * 1 ≤ g.row.SETS * g.row.WAYS = mul-le-mul_left g.row.SETS c.requires.ways in omega arith

pub serve-requires-room-G-Gate : goal.serve-requires-room-G-Gate
serve-requires-room-G-Gate g c κs within = let few : g.row.SETS * 1 ≤ g.row.SETS * g.row.WAYS = mul-le-mul_left g.row.SETS c.requires.ways in omega arith
