use Rattle.std.proofs.Common.{◌∙◌, refl, ap, subst}
use Rattle.words.specs.Stamps.{earlier}
use Rattle.protocol.specs.Hart.{stamp_of}
use Rattle.protocol.specs.Requests.{with_nack}
use Rattle.conflict.specs.Answers.{Keeps}
use Rattle.hart.specs.Shown.{shown_tx}
use Rattle.hart.proofs.Keeping.{kept}
use Rattle.hart.specs.Parts.{Parts}
use Rattle.hart.specs.Places.{KeepsWays}
use Rattle.hart.proofs.hart.Hart.on_nack.Goals as goal

pub returns-clause-row : goal.returns-clause-row
returns-clause-row g c = λ output.
    let stamp = stamp_of (shown_tx c.args.self.now.tx) in
    let is = c.earlier-is_earlier.ensures ∙ ap (earlier c.args.stamp) c.stamp.ensures in
    kept g.row.SETS output c.args.block (with_nack c.args.from (earlier c.args.stamp stamp)) _ c.args.self.now c.keep_nack.new.out _ c.self.view_is
    (subst (λ b. Keeps (with_nack c.args.from b) c.args.block c.self.inside.request c.keep_nack.new.out) is (c.if-not-keep_nack.ensures.kept refl)) (c.settle.ensures.row output)

pub returns-clause-ways : goal.returns-clause-ways
returns-clause-ways g c = subst (λ (p : Parts). KeepsWays g.row.SETS p.cache c.settle.new.self.cache) c.self.view_is c.settle.ensures.ways
