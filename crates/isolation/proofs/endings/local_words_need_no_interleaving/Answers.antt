use Rattle.isolation.proofs.InOrder.{in_order}
use Rattle.isolation.proofs.endings.local_words_need_no_interleaving.Goals as goal

pub returns : goal.returns
returns c = in_order
