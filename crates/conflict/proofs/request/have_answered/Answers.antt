use Rattle.words.specs.Harts.{names}
use Rattle.conflict.proofs.Answering.{have_answered-subset}
use Rattle.conflict.proofs.request.have_answered.Goals as goal

pub returns : goal.returns
returns c = have_answered-subset (names c.args.expect.now) (names c.args.answered.now) c.args.harts (names c.below.result) c.is_subset.result c.below.ensures c.is_subset.ensures
