use Rattle.std.proofs.Common.{◌≡◌, ◌<◌, ◌≤◌, ◌∙◌, ◌++◌, ℕ, List, [], ◌∷◌, length, arith, refl, subst, sym, append-nil}
use Rattle.std.proofs.lemmas.Result.{err_from_is_err_and}
use Rattle.words.specs.Sinks.{TookAll, TookPart}
use Rattle.machine.specs.States.{geometry}
use Rattle.schedule.specs.Moments.{Moment}
use Rattle.texts.proofs.Putting.{took-nothing}
use Rattle.watch.specs.Traces.{trace_of}
use Rattle.watch.proofs.RowLines.{added_text, same_lines}
use Rattle.watch.proofs.recording.Lines.put_turns.Goals as goal

nothing : (ms : List Moment) → length ms ≡ 0 → ms ≡ []
nothing [] none = refl
nothing (m ∷ ms) none = absurd (omega (arith, none))

-- no line is put where no turn was taken
pub returns-then-turns-eq0-clause-turns : goal.returns-then-turns-eq0-clause-turns
returns-then-turns-eq0-clause-turns g c =
    let names = c.args.self.now.entries in
    let a = g.S.Sink.state c.args.sink.now in
    let adds = c.add_turns-turns.ensures.turns in
    let turns = adds.turns in
    let none : length adds.moments ≡ 0 = omega (arith, turns, c.if-turns-eq0.true) in
    record {
      moments = adds.moments;
      took = adds.took;
      turns = sym none;
      put = subst (λ (ms : List Moment). TookAll a a (trace_of names ms)) (sym (nothing adds.moments none)) (took-nothing a);
    }

pub returns-then-turns-eq0-clause-none : goal.returns-then-turns-eq0-clause-none
returns-then-turns-eq0-clause-none g c =
    let x = c.args.self.now in
    let added = c.add_turns-turns in
    let adds = added.ensures.turns in
    let turns = adds.turns in
    let none : length adds.moments ≡ 0 = omega (arith, turns, c.if-turns-eq0.true) in
    same_lines x added.new.self adds.names (subst (λ (ms : List Moment). added.new.self.text ≡ x.text ++ trace_of x.entries ms) (nothing adds.moments none) adds.text ∙ append-nil x.text)

pub returns-clause-turns : goal.returns-clause-turns
returns-clause-turns g c =
    let added = c.add_turns-turns in
    let adds = added.ensures.turns in
    let text = added_text (geometry g.row.SETS g.row.WAYS) c.args.machine.now added.new.machine c.args.last.hart added.result.1.hart added.result.0 c.args.self.now added.new.self c.requires.none adds in
    record {
      moments = adds.moments;
      took = adds.took;
      turns = adds.turns;
      put = subst (λ (text : List ℕ). TookAll (g.S.Sink.state c.args.sink.now) (g.S.Sink.state c.put.new.sink) text) text c.in_ok-put.ensures.noted;
    }

pub returns-clause-none : goal.returns-clause-none
returns-clause-none g c =
    let adds = c.add_turns-turns.ensures.turns in
    same_lines c.args.self.now _ adds.names (c.clear.ensures ∙ sym c.requires.none)

pub returns-in_err-put-clause-missed : goal.returns-in_err-put-clause-missed
returns-in_err-put-clause-missed g c =
    let added = c.add_turns-turns in
    let adds = added.ensures.turns in
    let text = added_text (geometry g.row.SETS g.row.WAYS) c.args.machine.now added.new.machine c.args.last.hart added.result.1.hart added.result.0 c.args.self.now added.new.self c.requires.none adds in
    let turns = adds.turns in
    let some : 0 < length adds.moments = omega (arith, turns, c.if-turns-eq0.false) in
    let few : length adds.moments ≤ c.args.most = omega (arith, turns, added.ensures.most) in
    let p = err_from_is_err_and c.from_residual.result c.from_residual.ensures.1 in
    rw (p.1) (record {
      moments = adds.moments;
      last = added.result.1.hart;
      took = adds.took;
      some = some;
      few = few;
      part = subst (λ (text : List ℕ). TookPart (g.S.Sink.state c.args.sink.now) (g.S.Sink.state c.put.new.sink) text) text c.in_err-put.ensures.missed;
    })
