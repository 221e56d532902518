use Rattle.std.proofs.Common.{◌≡◌, ◌+◌, ◌∷◌, [], List, arith, length, sym, ap, subst, ◌∙◌}
use Rattle.std.proofs.lemmas.List.{length-append}
use Rattle.machine.specs.States.{Seat}
use Rattle.machine.proofs.Beginning.{IsFirst, AreFirst, first_none, first_more, harts_first}
use Rattle.machine.proofs.machine.Machine.first_seats.Given.{Over}
use Rattle.machine.proofs.machine.Machine.first_seats.Goals as goal

pub loop-i-init : goal.loop-i-init
loop-i-init g c =
    let empty : c.in_ok-seats.seats.items ≡ [] = c.in_ok-seats.ensures.items in
    (ap length empty, subst (AreFirst g.row.SETS g.row.WAYS c.args.size c.args.harts c.args.entry) (sym empty) (first_none g.row.SETS g.row.WAYS c.args.size c.args.harts c.args.entry))

pub loop-i-preserved : goal.loop-i-preserved
loop-i-preserved g c =
    let before : List Seat = c.loop-i.seats.items in
    let x : Seat = c.first.result in
    let one : IsFirst g.row.SETS g.row.WAYS c.args.size c.args.harts c.args.entry (length before) x =
    subst (λ n. IsFirst g.row.SETS g.row.WAYS c.args.size c.args.harts c.args.entry n x) (sym c.loop-i.invariant.0) (record { hart = c.first.ensures.start; seated = c.first.ensures.seated; cache = c.first.ensures.cache; log = c.first.ensures.log }) in (
      ap length c.push.ensures.items ∙ length-append before (x ∷ []) ∙ ap (λ n. n + 1) c.loop-i.invariant.0,
      subst (AreFirst g.row.SETS g.row.WAYS c.args.size c.args.harts c.args.entry) (sym c.push.ensures.items) (first_more g.row.SETS g.row.WAYS c.args.size c.args.harts c.args.entry before x c.loop-i.invariant.1 one),
    )

-- all harts stand
many : (g : Over) (c : goal.After-loop-i g) → length c.loop-i.seats.items ≡ c.args.harts
many g c = omega (arith, c.loop-i-test.false, c.loop-i.auto.i-end, c.loop-i.invariant.0)

pub returns-clause-count : goal.returns-clause-count
returns-clause-count g c = many g c

pub returns-clause-harts : goal.returns-clause-harts
returns-clause-harts g c = λ s j size count. harts_first g.row.SETS g.row.WAYS c.args.size c.args.harts c.args.entry c.loop-i.seats.items s j c.loop-i.invariant.1 (many g c) size count

pub returns-clause-seated : goal.returns-clause-seated
returns-clause-seated g c = λ s j x size count at. (c.loop-i.invariant.1 j x at).seated s size count

pub returns-clause-caches : goal.returns-clause-caches
returns-clause-caches g c = λ j x at. (c.loop-i.invariant.1 j x at).cache

pub returns-clause-logs : goal.returns-clause-logs
returns-clause-logs g c = λ j x at. (c.loop-i.invariant.1 j x at).log
