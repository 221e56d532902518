use Rattle.std.proofs.Common.{refl, subst}
use Rattle.conflict.specs.Requests.{shown_granted}
use Rattle.protocol.specs.Requests.{with_grant}
use Rattle.hart.proofs.Keeping.{kept}
use Rattle.hart.specs.Parts.{Parts}
use Rattle.hart.specs.Places.{KeepsWays}
use Rattle.hart.proofs.hart.Hart.on_grant.Goals as goal

pub returns-clause-row : goal.returns-clause-row
returns-clause-row g c = λ output.
    kept g.row.SETS output c.args.block (with_grant (shown_granted c.args.granted.now)) _ c.args.self.now c.keep_grant.new.out _ c.self.view_is (c.if-not-keep_grant.ensures.kept refl) (c.settle.ensures.row output)

pub returns-clause-ways : goal.returns-clause-ways
returns-clause-ways g c = subst (λ (p : Parts). KeepsWays g.row.SETS p.cache c.settle.new.self.cache) c.self.view_is c.settle.ensures.ways
