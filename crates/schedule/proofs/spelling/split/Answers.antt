use Rattle.std.proofs.Common.{arith}
use Rattle.schedule.proofs.Words.{words_cut}
use Rattle.schedule.proofs.spelling.split.Goals as goal

pub returns : goal.returns
returns c = words_cut c.args.text.now c.split_once.result (c.split_once.ensures.byte (omega arith) (λ w o h. h))
