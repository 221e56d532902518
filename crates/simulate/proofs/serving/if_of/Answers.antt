use Rattle.std.proofs.Common.{◌∙◌, ◌*◌, ◌≤◌, ◌<◌, ◌^◌, arith}
use Rattle.std.proofs.lemmas.Bool.{false≢true}
use native.Mathlib.Nat.{mul-le-mul_left}
use Rattle.machine.specs.States.{geometry}
use Rattle.simulate.proofs.ThreadedRuns.{end_same}
use Rattle.simulate.proofs.serving.if_of.Goals as goal
use Rattle.simulate.proofs.serving.if_of.Goals.{else-is_done-via-then-is_done+then-end-harts+then-end-size+else-same, else-is_done-via-then-is_done+then-end-harts+else-end-size, else-is_done-via-then-is_done+else-end-harts, else-is_done-via-else-is_done}

pub returns-then-same-clause-end : goal.returns-then-same-clause-end
returns-then-same-clause-end g c =
    end_same (geometry g.row.SETS g.row.WAYS) c.args.program.now c.finish-end.result.program.now c.args.harts c.finish-end.result.harts c.args.size c.finish-end.result.size
    (g.J.Journal.tells c.finish-end.result.journal) c.args.turns c.finish-end.result.machine (c.same.ensures.0 c.if-same.true) c.if-end-harts.true c.if-end-size.true
    (c.finish-end.ensures.end c.args.turns (c.is_done-is_done.ensures.0 c.if-is_done.true))

-- a machine has a size that fits: it has no more sets than lines
pub drop-end-requires-3-room-T-Destruct : goal.drop-end-requires-3-room-T-Destruct
drop-end-requires-3-room-T-Destruct g c κs =
    let few : g.row.SETS * 1 ≤ g.row.SETS * g.row.WAYS = mul-le-mul_left g.row.SETS c.drop.invariant.some_way in
    let fits : g.row.SETS * g.row.WAYS < 2 ^ 32 = c.drop.invariant.fits in
    omega arith

-- one of the four was in the way
pub returns-clause-exchanged : goal.returns-clause-exchanged
returns-clause-exchanged g c = elim c.else-is_done.branch [
  | else-is_done-via-then-is_done+then-end-harts+then-end-size+else-same w ↦ λ all. false≢true (w.if-same.ensures.1 (c.finish-end.ensures.program ∙ all.1))
  | else-is_done-via-then-is_done+then-end-harts+else-end-size w ↦ λ all. w.if-end-size.false (c.finish-end.ensures.size ∙ all.3)
  | else-is_done-via-then-is_done+else-end-harts w ↦ λ all. w.if-end-harts.false (c.finish-end.ensures.harts ∙ all.2)
  | else-is_done-via-else-is_done w ↦ λ all. false≢true (w.if-is_done.ensures.1 all.0)
]
