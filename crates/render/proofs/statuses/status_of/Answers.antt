use Rattle.std.proofs.Common.{◌≡◌, ◌<◌, Some, ap, sym, ◌∙◌, subst}
use Rattle.std.proofs.lemmas.Bool.{lt-ltb}
use Rattle.flat.specs.State.{Setting}
use Rattle.flat.specs.Reads.{shown}
use Rattle.render.proofs.Reading.{shown_if-hart}
use Rattle.render.proofs.statuses.status_of.Goals as goal

pub unwrap-requires : goal.unwrap-requires
unwrap-requires g c = c.regs.ensures.known ∙ lt-ltb c.args.id (g.M.Engine.setting c.args.machine.now).count c.requires

pub returns : goal.returns
returns g c = λ f belongs.
    let inside : c.args.id < f.setting.count = subst (λ (s : Setting). c.args.id < s.count) (sym (g.met.M.Engine.same_setting f c.args.machine.now belongs)) c.requires in
    let read : c.regs.result ≡ Some (shown (f.hart c.args.id)) = c.regs.ensures.value f belongs ∙ shown_if-hart f c.args.id inside in
    let same : c.unwrap.result ≡ shown (f.hart c.args.id) = cc in
    ap (λ x. x.2) same
