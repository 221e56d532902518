use Rattle.std.proofs.Common.{arith, ◌+◌, ◌∙◌, List, ap, refl, subst, subst₂, sym}
use Rattle.std.specs.Prelude.{length, max}
use Rattle.network.specs.declared.net.Flight.{Flight}
use Rattle.machine.specs.States.{State, geometry}
use Rattle.watch.specs.Runs.{HasAsked, HasStepped, TakesCounted}
use Rattle.watch.specs.declared.counting.Tally.{Tally}
use Rattle.watch.proofs.AskedTurns.{all_free_behind, all_free_quietly, goes_on, quiet_counted, quiet_free, stale_now}
use Rattle.watch.proofs.rows.take_step.Goals as goal

-- nothing was asked for
pub returns-then-in_flight-eq0-clause-turns : goal.returns-then-in_flight-eq0-clause-turns
returns-then-in_flight-eq0-clause-turns g c =
    let G = geometry g.row.SETS g.row.WAYS in
    let v = c.args.machine.now in
    let w = c.hear_turn.new.machine in
    let i = c.in-Some.hart in
    let t : Tally = c.args.tally.now in
    let stepped : HasStepped G v c.args.after i w t c.hear_turn.new.tally = c.in-Some.ensures.turn in
    let mid : Tally = c.hear_turn.new.tally in
    let quiet = sym c.in_flight.ensures ∙ c.if-in_flight-eq0.true in
    let quiescent = quiet_free g.row.SETS w quiet (all_free_quietly G v w c.args.after i t mid stepped quiet) in
    quiet_counted G v w c.args.after i t mid stepped (record mid { machine = c.note_plain.new.self }) quiescent refl refl c.note_plain.ensures.sums c.note_plain.ensures.most_in_flight
    (c.note_plain.ensures.most_in_use ∙ (λ j. max mid.machine.most_in_use (c.used-used.ensures.count j)))

pub returns-then-in_flight-eq0-clause-quiescent : goal.returns-then-in_flight-eq0-clause-quiescent
returns-then-in_flight-eq0-clause-quiescent g c = λ _.
    let G = geometry g.row.SETS g.row.WAYS in
    let v = c.args.machine.now in
    let w = c.hear_turn.new.machine in
    let i = c.in-Some.hart in
    let t : Tally = c.args.tally.now in
    let stepped : HasStepped G v c.args.after i w t c.hear_turn.new.tally = c.in-Some.ensures.turn in
    let mid : Tally = c.hear_turn.new.tally in
    let quiet = sym c.in_flight.ensures ∙ c.if-in_flight-eq0.true in
    quiet_free g.row.SETS w quiet (all_free_quietly G v w c.args.after i t mid stepped quiet)

pub returns-then-in_flight-eq0-clause-again : goal.returns-then-in_flight-eq0-clause-again
returns-then-in_flight-eq0-clause-again g c = λ _.
    let G = geometry g.row.SETS g.row.WAYS in
    let v = c.args.machine.now in
    let w = c.hear_turn.new.machine in
    let i = c.in-Some.hart in
    let t : Tally = c.args.tally.now in
    let stepped : HasStepped G v c.args.after i w t c.hear_turn.new.tally = c.in-Some.ensures.turn in
    let mid : Tally = c.hear_turn.new.tally in
    let quiet = sym c.in_flight.ensures ∙ c.if-in_flight-eq0.true in
    let free = all_free_quietly G v w c.args.after i t mid stepped quiet in
    (quiet_free g.row.SETS w quiet free, stale_now G v w c.args.after i t mid stepped, free)

-- a request was sent, behind which none is fresh by the tally
pub go_on-requires : goal.go_on-requires
go_on-requires g c =
    let G = geometry g.row.SETS g.row.WAYS in
    let v = c.args.machine.now in
    let w = c.hear_turn.new.machine in
    let i = c.in-Some.hart in
    let t : Tally = c.args.tally.now in
    let z = c.ask-turns.new.machine in
    let y : Tally = c.ask-turns.new.tally in
    let stepped : HasStepped G v c.args.after i w t c.hear_turn.new.tally = c.in-Some.ensures.turn in
    let has : HasAsked G v c.args.after i (1 + c.ask-turns.result) z t y = c.ask-turns.ensures.asked v c.args.after t stepped c.sent-sent.ensures in
    (omega arith, has.stale)

-- its hart goes on
pub returns-then-go_on-clause-turns : goal.returns-then-go_on-clause-turns
returns-then-go_on-clause-turns g c =
    let G = geometry g.row.SETS g.row.WAYS in
    let v = c.args.machine.now in
    let w = c.hear_turn.new.machine in
    let i = c.in-Some.hart in
    let t : Tally = c.args.tally.now in
    let z = c.ask-turns.new.machine in
    let y : Tally = c.ask-turns.new.tally in
    let stepped : HasStepped G v c.args.after i w t c.hear_turn.new.tally = c.in-Some.ensures.turn in
    let has : HasAsked G v c.args.after i (1 + c.ask-turns.result) z t y = c.ask-turns.ensures.asked v c.args.after t stepped c.sent-sent.ensures in
    let step = c.if-go_on.ensures.some refl in
    let due = c.if-go_on.ensures.due refl in
    goes_on G v z c.go_on.new.machine c.args.after i (1 + c.ask-turns.result) step.0 t y c.go_on.new.tally has step.1 due.1 due.2 (c.if-go_on.ensures.made refl)

pub returns-then-go_on-clause-quiescent : goal.returns-then-go_on-clause-quiescent
returns-then-go_on-clause-quiescent g c = λ _.
    let G = geometry g.row.SETS g.row.WAYS in
    let v = c.args.machine.now in
    let w = c.hear_turn.new.machine in
    let i = c.in-Some.hart in
    let t : Tally = c.args.tally.now in
    let z = c.ask-turns.new.machine in
    let y : Tally = c.ask-turns.new.tally in
    let stepped : HasStepped G v c.args.after i w t c.hear_turn.new.tally = c.in-Some.ensures.turn in
    let has : HasAsked G v c.args.after i (1 + c.ask-turns.result) z t y = c.ask-turns.ensures.asked v c.args.after t stepped c.sent-sent.ensures in
    let step = c.if-go_on.ensures.some refl in
    let quiet = ap (λ (flights : List Flight). length flights) c.go_on.ensures.flights ∙ (c.if-go_on.ensures.due refl).1 in
    quiet_free g.row.SETS c.go_on.new.machine quiet (all_free_behind G v z c.go_on.new.machine c.args.after i (1 + c.ask-turns.result) step.0 t y c.go_on.new.tally has step.1)

pub returns-then-go_on-clause-again : goal.returns-then-go_on-clause-again
returns-then-go_on-clause-again g c = λ _.
    let G = geometry g.row.SETS g.row.WAYS in
    let v = c.args.machine.now in
    let w = c.hear_turn.new.machine in
    let i = c.in-Some.hart in
    let t : Tally = c.args.tally.now in
    let z = c.ask-turns.new.machine in
    let y : Tally = c.ask-turns.new.tally in
    let stepped : HasStepped G v c.args.after i w t c.hear_turn.new.tally = c.in-Some.ensures.turn in
    let has : HasAsked G v c.args.after i (1 + c.ask-turns.result) z t y = c.ask-turns.ensures.asked v c.args.after t stepped c.sent-sent.ensures in
    let step = c.if-go_on.ensures.some refl in
    let quiet = ap (λ (flights : List Flight). length flights) c.go_on.ensures.flights ∙ (c.if-go_on.ensures.due refl).1 in
    let free = all_free_behind G v z c.go_on.new.machine c.args.after i (1 + c.ask-turns.result) step.0 t y c.go_on.new.tally has step.1 in
    (quiet_free g.row.SETS c.go_on.new.machine quiet free, c.go_on.ensures.stale, free)

-- or it doesn't
pub behind_request-requires : goal.behind_request-requires
behind_request-requires g c =
    let G = geometry g.row.SETS g.row.WAYS in
    let v = c.args.machine.now in
    let w = c.hear_turn.new.machine in
    let i = c.in-Some.hart in
    let t : Tally = c.args.tally.now in
    let z = c.ask-turns.new.machine in
    let y : Tally = c.ask-turns.new.tally in
    let stepped : HasStepped G v c.args.after i w t c.hear_turn.new.tally = c.in-Some.ensures.turn in
    let has : HasAsked G v c.args.after i (1 + c.ask-turns.result) z t y = c.ask-turns.ensures.asked v c.args.after t stepped c.sent-sent.ensures in
    let none = c.if-go_on.ensures.none refl in
    let still : HasAsked G v c.args.after i (1 + c.ask-turns.result) c.go_on.new.machine t c.go_on.new.tally =
    subst₂ (λ (m : State) (u : Tally). HasAsked G v c.args.after i (1 + c.ask-turns.result) m t u) (sym none.0) (sym none.1) has in
    (omega arith, (omega arith, still.others))

pub returns-clause-turns : goal.returns-clause-turns
returns-clause-turns g c =
    let G = geometry g.row.SETS g.row.WAYS in
    let v = c.args.machine.now in
    let w = c.hear_turn.new.machine in
    let i = c.in-Some.hart in
    let t : Tally = c.args.tally.now in
    let z = c.ask-turns.new.machine in
    let y : Tally = c.ask-turns.new.tally in
    let stepped : HasStepped G v c.args.after i w t c.hear_turn.new.tally = c.in-Some.ensures.turn in
    let has : HasAsked G v c.args.after i (1 + c.ask-turns.result) z t y = c.ask-turns.ensures.asked v c.args.after t stepped c.sent-sent.ensures in
    let none = c.if-go_on.ensures.none refl in
    let still : HasAsked G v c.args.after i (1 + c.ask-turns.result) c.go_on.new.machine t c.go_on.new.tally =
    subst₂ (λ (m : State) (u : Tally). HasAsked G v c.args.after i (1 + c.ask-turns.result) m t u) (sym none.0) (sym none.1) has in
    let behind = c.behind_request in
    let ends : Tally = behind.new.tally in
    let counted : TakesCounted G v c.args.after (1 + c.ask-turns.result) c.go_on.new.machine i t ends =
    subst (λ u. TakesCounted G v c.args.after (1 + c.ask-turns.result) c.go_on.new.machine i t u) (sym behind.ensures.rest) (still.turns ends.fresh behind.ensures.fresh) in
    subst₂ (λ n h. TakesCounted G v c.args.after n c.go_on.new.machine h t ends) (sym behind.ensures.turns) (sym behind.ensures.hart) counted
