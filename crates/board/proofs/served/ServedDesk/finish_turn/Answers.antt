use Rattle.std.proofs.Common.{◌≡◌, ◌<◌, ◌∙◌, List, ℕ, ap, arith, length, refl, subst, sym}
use Rattle.std.proofs.lemmas.Bool.{eqb-true}
use Rattle.machine.specs.States.{geometry}
use Rattle.board.specs.Boards.{Held, Settles, LendsAgain}
use Rattle.board.specs.Visits.{Visits}
use Rattle.board.specs.Turns.{Counted, IsServed}
use Rattle.board.proofs.Within.{ends_within}
use Rattle.board.proofs.WholeTurns.{both_true, ok_of, turned, served_more}
use Rattle.board.proofs.served.ServedDesk.finish_turn.Goals as goal

pub invariant_of-self : goal.invariant_of-self
invariant_of-self g c = (
  λ whole.
      let tells = g.J.Journal.tells in
      let b = c.self.inside.board in
      let later = c.finish_turn-ended.new.self in
      let counts = c.self.inside.tally.turns in
      let counted = c.count.ensures.counted whole in
      let parts = both_true _ _ counted.1 in
      let own : c.args.lease.now.id ≡ c.args.id = sym c.hart.ensures ∙ (sym c.index.ensures.value ∙ (eqb-true c.index.result c.index-2.result parts.0 ∙ c.index-2.ensures.value)) in
      let ok = ok_of c.finish_turn-ended.result (sym c.is_ok.ensures.value ∙ parts.1) in
      let turn = turned (geometry g.row.SETS g.row.WAYS) tells g.J.Trace.Trace.traces c.args.id c.args.is_last b later c.args.lease.now c.finish_turn-ended.new.lease c.finish_turn-ended.result ok.0 ok.1 own
      c.finish_turn-ended.ensures in
      let within : c.args.id < length counts = omega (arith, c.self.invariant.1, c.index-2.ensures.bound, c.index-2.ensures.value) in
      let more = served_more (geometry g.row.SETS g.row.WAYS) tells c.args.id b later counts (c.self.invariant.0 counted.0) within turn in
      subst (λ (ts : List ℕ). IsServed (geometry g.row.SETS g.row.WAYS) tells later ts) (sym counted.2) more,
  c.count.ensures.places,
  c.self.invariant.2,
)

pub returns : goal.returns
returns g c =
    let after : Counted g.row.J.Denot = record { board = c.finish_turn-ended.new.self; turns = c.count.new.self.turns; whole = c.count.new.self.whole } in
    ends_within (λ (s : Counted g.row.J.Denot). s.board) (λ (s : Counted g.row.J.Denot) (b : Held g.row.J.Denot). record s { board = b }) (λ s b. refl) (Settles (geometry g.row.SETS g.row.WAYS) g.J.Journal.tells g.J.Trace.Trace.traces)
    (Visits (geometry g.row.SETS g.row.WAYS) g.J.Journal.tells c.args.id) (LendsAgain g.J.Trace.Trace.traces c.args.id) c.args.is_last c.args.self.now after c.self.inside.board c.args.lease.now c.finish_turn-ended.result
    c.finish_turn-ended.new.self c.finish_turn-ended.new.lease (ap (λ (s : Counted g.row.J.Denot). s.board) c.self.view_is) c.finish_turn-ended.ensures
