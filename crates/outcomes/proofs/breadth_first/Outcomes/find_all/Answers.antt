use Rattle.std.proofs.Common.{refl}
use Rattle.outcomes.proofs.Found.{finds}
use Rattle.outcomes.proofs.breadth_first.Outcomes.find_all.Goals as goal

pub returns : goal.returns
returns g c first begun = finds c.args.self.now c.explore.new.self c.in_ok-self.field-0 first begun.state c.args.limit begun.search begun.only begun.is
    c.in_ok-self.ensures.search c.in_ok-self.ensures.extends c.in_ok-self.ensures.expanded c.in_ok-self.ensures.more c.in_ok-self.ensures.bound
