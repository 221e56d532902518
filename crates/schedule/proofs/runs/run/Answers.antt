use Rattle.std.proofs.Common.{◌≡◌, ◌<◌, ◌≤◌, ◌+◌, ◌-◌, ℕ, arith, inr, sym, subst, subst₂}
use Rattle.std.specs.Prelude.{IsTrue, MatchOption}
use Rattle.std.proofs.lemmas.Result.{err_from_is_err_and}
use Rattle.words.specs.declared.entry.Step.{Step}
use Rattle.machine.specs.States.{State, geometry}
use Rattle.machine.specs.Turns.{IsQuiescent, hart_after}
use Rattle.schedule.specs.Courses.{Behind, course, IsNoneNext}
use Rattle.schedule.specs.Observed.{IsSeen, GoesSeen}
use Rattle.schedule.proofs.Seeing.{HasSeenMore, seen_begun, seen_left, seen_next, seen_more, seen_whole, seen_idle, stopped_next, unseen_more}
use Rattle.schedule.proofs.runs.run.Goals as goal

-- the list fails
pub returns-in_err-begun : goal.returns-in_err-begun
returns-in_err-begun g c =
    let p = err_from_is_err_and c.from_residual.result c.from_residual.ensures.1 in
    rw (p.1, p.2) (c.in_err-begun.ensures (g.C.Chooser.behind c.args.chooser.now) c.requires)

pub loop-left-init : goal.loop-left-init
loop-left-init g c =
    let o = c.args.observer.now in
    let O = g.O.Observer in (
      seen_begun (O.saw o) (O.missed o) (geometry g.row.SETS g.row.WAYS) c.args.choices.now (g.C.Chooser.behind c.args.chooser.now) c.args.steps c.in_ok-begun.begun.left c.args.machine.now
          c.make_choices.new.machine c.in_ok-begun.begun.hart c.args.log.now c.make_choices.new.log c.requires c.in_ok-begun.ensures,
      λ quiescent. absurd (cc),
    )

pub returns-in_err-next : goal.returns-in_err-next
returns-in_err-next g c =
    let o = c.args.observer.now in
    let O = g.O.Observer in
    let so_far = seen_left (O.saw o) (O.missed o) (geometry g.row.SETS g.row.WAYS) c.args.choices.now (g.C.Chooser.behind c.loop-left.chooser) c.args.steps c.loop-left.left c.args.machine.now
    c.loop-left.machine c.loop-left.last.hart c.args.log.now c.loop-left.log c.loop-left-test.true c.loop-left.invariant.0 in
    let p = err_from_is_err_and c.from_residual-in_err-next.result c.from_residual-in_err-next.ensures.1 in
    let less : so_far.0 < c.args.steps = omega (arith, so_far.2, c.loop-left-test.true) in
    rw (p.1, p.2) (stopped_next (O.saw o) (O.missed o) (geometry g.row.SETS g.row.WAYS) c.args.choices.now (g.C.Chooser.behind c.loop-left.chooser) so_far.0 c.args.machine.now c.loop-left.machine c.go_on.new.machine
    c.loop-left.last.hart c.args.log.now c.loop-left.log c.go_on.new.log so_far.1 (g.C.Chooser.behind c.go_on.new.chooser) c.args.steps _ less c.in_err-next.ensures)

-- nothing comes next
pub returns-in_default : goal.returns-in_default
returns-in_default g c =
    let o = c.args.observer.now in
    let O = g.O.Observer in
    let C = g.C.Chooser in
    let G = geometry g.row.SETS g.row.WAYS in
    let so_far = seen_left (O.saw o) (O.missed o) (geometry g.row.SETS g.row.WAYS) c.args.choices.now (g.C.Chooser.behind c.loop-left.chooser) c.args.steps c.loop-left.left c.args.machine.now
    c.loop-left.machine c.loop-left.last.hart c.args.log.now c.loop-left.log c.loop-left-test.true c.loop-left.invariant.0 in
    let within : so_far.0 ≤ c.args.steps = omega (arith, so_far.2) in
    let b = C.behind c.loop-left.chooser in
    let idle = subst (λ t. MatchOption t
    (IsNoneNext G c.loop-left.machine c.loop-left.last.hart b × (C.behind c.go_on.new.chooser ≡ b) × (c.go_on.new.machine ≡ c.loop-left.machine) × (c.go_on.new.log ≡ c.loop-left.log))
    (λ next. (step : Step) × GoesSeen (O.saw o) G c.loop-left.machine c.loop-left.last.hart b step (C.behind c.go_on.new.chooser) c.go_on.new.machine c.loop-left.log c.go_on.new.log
    × (next.hart ≡ hart_after step c.loop-left.last.hart) × (IsTrue next.quiescent → IsQuiescent g.row.SETS c.go_on.new.machine))) c.in_default.is c.in_ok-next.ensures in
    subst (λ (d : Behind). IsSeen (O.saw o) G (course c.args.choices.now d) c.args.steps c.args.machine.now c.go_on.new.machine c.args.log.now c.go_on.new.log) (sym idle.1)
    (subst₂ (λ (m : State) l. IsSeen (O.saw o) G (course c.args.choices.now b) c.args.steps c.args.machine.now m c.args.log.now l) (sym idle.2) (sym idle.3)
    (seen_idle (O.saw o) (O.missed o) G c.args.choices.now b so_far.0 c.args.steps c.args.machine.now c.loop-left.machine c.loop-left.last.hart c.args.log.now c.loop-left.log within so_far.1 idle.0))

-- one more step, and turns behind it where it is turns that come next
pub loop-left-preserved : goal.loop-left-preserved
loop-left-preserved g c =
    let o = c.args.observer.now in
    let O = g.O.Observer in
    let C = g.C.Chooser in
    let G = geometry g.row.SETS g.row.WAYS in
    let so_far = seen_left (O.saw o) (O.missed o) (geometry g.row.SETS g.row.WAYS) c.args.choices.now (g.C.Chooser.behind c.loop-left.chooser) c.args.steps c.loop-left.left c.args.machine.now
    c.loop-left.machine c.loop-left.last.hart c.args.log.now c.loop-left.log c.loop-left-test.true c.loop-left.invariant.0 in
    let k = so_far.0 in
    let b = C.behind c.loop-left.chooser in
    let d = C.behind c.go_on.new.chooser in
    let made = subst (λ t. MatchOption t
    (IsNoneNext G c.loop-left.machine c.loop-left.last.hart b × (d ≡ b) × (c.go_on.new.machine ≡ c.loop-left.machine) × (c.go_on.new.log ≡ c.loop-left.log))
    (λ next. (step : Step) × GoesSeen (O.saw o) G c.loop-left.machine c.loop-left.last.hart b step d c.go_on.new.machine c.loop-left.log c.go_on.new.log
    × (next.hart ≡ hart_after step c.loop-left.last.hart) × (IsTrue next.quiescent → IsQuiescent g.row.SETS c.go_on.new.machine))) c.in-Some.is c.in_ok-next.ensures in
    let one : HasSeenMore (O.saw o) (O.missed o) G c.args.choices.now d (k + 1) c.args.machine.now c.go_on.new.machine c.in-Some.next.hart c.args.log.now c.go_on.new.log =
    subst (λ (i : ℕ). HasSeenMore (O.saw o) (O.missed o) G c.args.choices.now d (k + 1) c.args.machine.now c.go_on.new.machine i c.args.log.now c.go_on.new.log) (sym made.2)
    (seen_next (O.saw o) (O.missed o) G c.args.choices.now b k c.args.machine.now c.loop-left.machine c.go_on.new.machine c.loop-left.last.hart c.args.log.now c.loop-left.log c.go_on.new.log so_far.1 d made.0 made.1) in
    let more = c.in_ok-taken.taken in
    let count : k + 1 + more + (c.loop-left.left - 1 - more) ≡ c.args.steps = omega (arith, so_far.2, c.loop-left-test.true, c.in_ok-taken.ensures.most) in (
      inr (
        k + 1 + more,
        seen_more (O.saw o) (O.missed o) G c.args.choices.now d (k + 1) c.args.machine.now c.go_on.new.machine c.take_turns.new.machine c.in-Some.next.hart
            c.args.log.now c.go_on.new.log c.take_turns.new.log more c.in_ok-taken.behind.hart one c.in_ok-taken.ensures.turns,
        count,
      ),
      c.in_ok-taken.ensures.quiescent,
    )

-- turns could not be told
pub returns-in_err-taken : goal.returns-in_err-taken
returns-in_err-taken g c =
    let o = c.args.observer.now in
    let O = g.O.Observer in
    let C = g.C.Chooser in
    let G = geometry g.row.SETS g.row.WAYS in
    let so_far = seen_left (O.saw o) (O.missed o) (geometry g.row.SETS g.row.WAYS) c.args.choices.now (g.C.Chooser.behind c.loop-left.chooser) c.args.steps c.loop-left.left c.args.machine.now
    c.loop-left.machine c.loop-left.last.hart c.args.log.now c.loop-left.log c.loop-left-test.true c.loop-left.invariant.0 in
    let k = so_far.0 in
    let b = C.behind c.loop-left.chooser in
    let d = C.behind c.go_on.new.chooser in
    let made = subst (λ t. MatchOption t
    (IsNoneNext G c.loop-left.machine c.loop-left.last.hart b × (d ≡ b) × (c.go_on.new.machine ≡ c.loop-left.machine) × (c.go_on.new.log ≡ c.loop-left.log))
    (λ next. (step : Step) × GoesSeen (O.saw o) G c.loop-left.machine c.loop-left.last.hart b step d c.go_on.new.machine c.loop-left.log c.go_on.new.log
    × (next.hart ≡ hart_after step c.loop-left.last.hart) × (IsTrue next.quiescent → IsQuiescent g.row.SETS c.go_on.new.machine))) c.in-Some.is c.in_ok-next.ensures in
    let one : HasSeenMore (O.saw o) (O.missed o) G c.args.choices.now d (k + 1) c.args.machine.now c.go_on.new.machine c.in-Some.next.hart c.args.log.now c.go_on.new.log =
    subst (λ (i : ℕ). HasSeenMore (O.saw o) (O.missed o) G c.args.choices.now d (k + 1) c.args.machine.now c.go_on.new.machine i c.args.log.now c.go_on.new.log) (sym made.2)
    (seen_next (O.saw o) (O.missed o) G c.args.choices.now b k c.args.machine.now c.loop-left.machine c.go_on.new.machine c.loop-left.last.hart c.args.log.now c.loop-left.log c.go_on.new.log so_far.1 d made.0 made.1) in
    let p = err_from_is_err_and c.from_residual-in_err-taken.result c.from_residual-in_err-taken.ensures.1 in
    let within : k + 1 + c.min.result ≤ c.args.steps = omega (arith, so_far.2, c.loop-left-test.true, c.min.ensures) in
    rw (p.1, p.2) (unseen_more (O.saw o) (O.missed o) G c.args.choices.now d (k + 1) c.args.steps c.args.machine.now c.go_on.new.machine c.take_turns.new.machine c.in-Some.next.hart
    c.args.log.now c.go_on.new.log c.take_turns.new.log c.min.result within one c.in_err-taken.ensures.missed)

pub returns : goal.returns
returns g c =
    let o = c.args.observer.now in
    let O = g.O.Observer in
    seen_whole (O.saw o) (O.missed o) (geometry g.row.SETS g.row.WAYS) c.args.choices.now (g.C.Chooser.behind c.loop-left.chooser) c.args.steps c.loop-left.left c.args.machine.now c.loop-left.machine
    c.loop-left.last.hart c.args.log.now c.loop-left.log c.loop-left-test.false c.loop-left.invariant.0
