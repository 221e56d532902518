use Rattle.std.proofs.Common.{◌≡◌, ◌≤◌, ◌+◌, ◌-◌, ℕ, min, List, ap, ◌∙◌, subst, if◌then◌else◌, arith}
use Rattle.words.specs.declared.entry.Entry.{Entry}
use Rattle.hart.specs.Parts.{Parts}
use Rattle.board.specs.Leases.{most_steps, HasRun, TracesMore}
use Rattle.board.proofs.Locals.{run_to, run_there, both_run, stops_on}
use Rattle.board.proofs.lease.Lease.run.Goals as goal

pub invariant_of-self : goal.invariant_of-self
invariant_of-self g c =
    let l = c.self.inside in
    let ss = l.code.program.now.segments in
    let made = c.retire_most-made.result in
    let new = c.retire_most-made.new.hart in
    let traces = g.T.Trace.traces in
    let ran = run_to g.row.SETS (traces l.trace) ss l.steps l.before (if l.begun then l.after else l.before) c.begin.new.after c.begin.ensures c.self.invariant.0 in
    let more = run_there g.row.SETS (λ es. TracesMore traces l.trace es c.retire_most-made.new.trace) ss c.text.result.now.segments.now made c.begin.new.after new c.text.ensures c.retire_most-made.ensures.ran in
    let room : l.steps + made ≤ g.T.Trace.room = omega (arith, c.self.invariant.1, c.retire_most-made.ensures.most, c.min.ensures, c.room.ensures.value) in
    let few : l.steps + made ≤ most_steps = omega (arith, room, c.room.ensures.value, c.room.ensures.few) in
    (both_run g.row.SETS traces ss l.steps made l.before c.begin.new.after new l.trace c.retire_most-made.new.trace ran more, room, few, c.self.invariant.3, c.self.invariant.4)

pub returns-clause-stops : goal.returns-clause-stops
returns-clause-stops g c =
    let l = c.self.inside in
    let least : c.min.result ≡ min c.args.most (g.T.Trace.room - l.steps) = c.min.ensures ∙ ap (λ (n : ℕ). min c.args.most (n - l.steps)) c.room.ensures.value in
    stops_on g.row.SETS l.code.program.now.segments c.text.result.now.segments.now c.retire_most-made.new.hart g.T.Trace.room c.retire_most-made.result c.min.result c.args.most l.steps c.text.ensures c.self.invariant.1 least
    c.retire_most-made.ensures.stops

pub returns-clause-ran : goal.returns-clause-ran
returns-clause-ran g c =
    let l = c.self.inside in
    let ss = l.code.program.now.segments in
    let made = c.retire_most-made.result in
    let new = c.retire_most-made.new.hart in
    let Traced : List Entry → Type 0 = λ es. TracesMore g.T.Trace.traces l.trace es c.retire_most-made.new.trace in
    let more = run_there g.row.SETS Traced ss c.text.result.now.segments.now made c.begin.new.after new c.text.ensures c.retire_most-made.ensures.ran in
    rw (← c.self.view_is) (subst (λ (h : Parts). HasRun g.row.SETS Traced ss made h new) c.begin.ensures more)
