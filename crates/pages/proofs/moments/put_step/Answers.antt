use Rattle.std.proofs.Common.{sym}
use Rattle.pages.proofs.moments.put_step.Goals as goal

pub returns-in-Evict : goal.returns-in-Evict
returns-in-Evict g c = rw (c.in-Evict.is, sym c.first_byte.ensures.digits) c.put_all-in-Evict.ensures

pub returns-in-Deliver : goal.returns-in-Deliver
returns-in-Deliver g c = rw c.in-Deliver.is c.put_all-in-Deliver.ensures
