use Rattle.requests.proofs.Determined.{one_listing}
use Rattle.simulate.proofs.laws.listings_are_one.Goals as goal

pub returns : goal.returns
returns c = one_listing
