use Rattle.std.proofs.Common.{◌≡◌, Option, Some, None, subst}
use Rattle.words.specs.declared.entry.Step.{Step}
use Rattle.machine.specs.States.{geometry}
use Rattle.schedule.specs.Steps.{IsStepOf}
use Rattle.debugger.specs.Sessions.{Session, Makes}
use Rattle.debugger.proofs.Made.{makes}
use Rattle.debugger.proofs.session.Session.choose.Goals as goal

pub returns-in-Some-entry : goal.returns-in-Some-entry
returns-in-Some-entry g c =
    let G = geometry g.row.SETS g.row.WAYS in
    let before : Session = record { machine = c.self.inside.machine; last = c.self.inside.last; breakpoints = c.self.inside.breakpoints.items } in
    let after : Session = record { machine = c.step-2.new.self; last = c.hart_after-self-inside.result; breakpoints = before.breakpoints } in
    subst (λ (s : Session). (x : Option Step) × IsStepOf g.row.SETS s.machine s.last c.args.choice x × Makes G s x (Some c.in-Some-entry.entry) after) c.self.view_is (
      Some c.in-Some.step,
      c.in-Some.ensures,
      makes G before c.step-2.new.self c.hart_after-self-inside.result c.in-Some.step c.is_enabled.result c.in-Ok.entry (Some c.in-Some-entry.entry)
          c.if-not-is_enabled.false c.is_enabled.ensures.rule c.in-Some-entry.is c.in-Ok.ensures.made c.hart_after-self-inside.ensures,
    )

pub returns : goal.returns
returns g c =
    let G = geometry g.row.SETS g.row.WAYS in
    let before : Session = record { machine = c.self.inside.machine; last = c.self.inside.last; breakpoints = c.self.inside.breakpoints.items } in
    let after : Session = record { machine = c.step-2.new.self; last = c.hart_after-self-inside.result; breakpoints = before.breakpoints } in
    subst (λ (s : Session). (x : Option Step) × IsStepOf g.row.SETS s.machine s.last c.args.choice x × Makes G s x None after × (c.sent-number.result ≡ s.machine.sent)) c.self.view_is (
      Some c.in-Some.step,
      c.in-Some.ensures,
      makes G before c.step-2.new.self c.hart_after-self-inside.result c.in-Some.step c.is_enabled.result c.in-Ok.entry None c.if-not-is_enabled.false
          c.is_enabled.ensures.rule c.in-None.is c.in-Ok.ensures.made c.hart_after-self-inside.ensures,
      c.sent-number.ensures,
    )
